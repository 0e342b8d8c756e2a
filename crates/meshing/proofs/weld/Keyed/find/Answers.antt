-- `find` meets its contract: what std's `find` answers. Assumes nothing.
use Rattle.std.proofs.Common.{◌≡◌, true, false, rules, tests, length}
use Rattle.std.proofs.lemmas.Iterator.{first_from_Range}
use Rattle.openrdson_core.proofs.Ranges.{found_is}
use Rattle.meshing.proofs.WeldLaws.{has_key}
use Rattle.meshing.proofs.weld.Keyed.find.Goals as goal

pub returns : goal.returns
returns c = let n = c.args.self.nodes in
    let test = has_key c.args.self.tolerance n.xs.now n.ys.now n.zs.now c.args.key in
    found_is test (length n.xs.now) c.find.result (first_from_Range _ _ _ c.find.result (λ i. test i ≡ true) (λ i. test i ≡ false) c.find.ensures.ran (λ x q k. search (rules, tests)) (λ x q k. search (rules, tests)))
