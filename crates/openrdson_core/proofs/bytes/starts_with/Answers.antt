-- `starts_with` meets its contract: what `all` answers. Assumes nothing.
use Rattle.std.proofs.Common.{◌≡◌, true, false, refl, rules, arith, tests, ℕ, Bool, eqb, length}
use Rattle.std.proofs.lemmas.Iterator.{cases_from_all, YieldsList-from_range}
use Rattle.openrdson_core.specs.Bytes as spec
use Rattle.openrdson_core.proofs.Ranges.{all_is}
use Rattle.openrdson_core.proofs.bytes.starts_with.Goals as goal

pub returns-then-p-s : goal.returns-then-p-s
unfolding spec.starts_with
returns-then-p-s c =
    let s = c.args.s.now in
    let p = c.args.p.now in
    let test : ℕ → Bool = λ k. eqb (spec.byte_at s k) (spec.byte_at p k) in
    let all = all_is test (length p) c.all.result
    (cases_from_all _ _ _ (λ i. test i ≡ true) (λ i. test i ≡ false) c.all.ensures.ran (YieldsList-from_range 0 (length p) (length p) refl (omega arith))
    (λ x q k. (search rules, grind (arith, tests)))
    (λ x q k. grind (arith, tests))) in
    grind (arith, all)

pub returns-else-p-s : goal.returns-else-p-s
unfolding spec.starts_with
returns-else-p-s c = grind (arith, tests)
