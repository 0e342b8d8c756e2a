-- `is_in_range` meets its contract: what `all` answers. Assumes nothing.
use Rattle.std.proofs.Common.{◌≡◌, ◌&&◌, true, false, refl, rules, arith, tests, ℕ, Bool, length}
use Rattle.std.proofs.lemmas.Iterator.{cases_from_all, YieldsList-from_range}
use Rattle.binary64.specs.Numbers.{at, at_most}
use Rattle.openrdson_core.proofs.Ranges.{all_is}
use Rattle.meshing.specs.Whole as spec
use Rattle.meshing.proofs.whole.Nodes.is_in_range.Goals as goal

pub returns : goal.returns
unfolding spec.nodes_in
returns c =
    let p = c.args.self in
    let n = length p.xs.now in
    let test : ℕ → Bool = λ k. at_most 20 (at p.xs.now k) && at_most 20 (at p.ys.now k) && at_most 20 (at p.zs.now k) in
    all_is test n c.all.result
    (cases_from_all _ _ _ (λ i. test i ≡ true) (λ i. test i ≡ false) c.all.ensures.ran (YieldsList-from_range 0 n n refl (omega arith))
    (λ x q k. (search rules, grind (arith, tests)))
    (λ x q k. grind (arith, tests)))
