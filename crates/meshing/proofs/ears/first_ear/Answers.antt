-- `first_ear` meets its contract: what std's `find` answers. Assumes nothing.
use Rattle.std.proofs.Common.{◌≡◌, true, false, rules, tests, length, ℕ, Bool}
use Rattle.std.proofs.lemmas.Iterator.{first_from_Range}
use Rattle.openrdson_core.proofs.Ranges.{found_is}
use Rattle.meshing.specs.Ears.{is_ear}
use Rattle.meshing.proofs.ears.first_ear.Goals as goal

pub returns : goal.returns
returns c = let w = c.args.walk in
    let test : ℕ → Bool = is_ear w.ring.xs.now w.ring.ys.now w.vertices.now in
    found_is test (length w.vertices.now) c.find.result (first_from_Range _ _ _ c.find.result (λ i. test i ≡ true) (λ i. test i ≡ false) c.find.ensures.ran (λ x q k. search (rules, tests)) (λ x q k. search (rules, tests)))
