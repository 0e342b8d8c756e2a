-- `contains` meets its contract: what `any` answers. Assumes nothing.
use Rattle.std.proofs.Common.{◌≡◌, ℕ, Bool, true, false, refl, rules, arith, tests, length, drop}
use Rattle.std.proofs.lemmas.Iterator.{cases_from_any, YieldsList-from_range}
use Rattle.lists.proofs.Parts.{rest_lent}
use Rattle.openrdson_core.specs.Bytes as spec
use Rattle.openrdson_core.proofs.Ranges.{any_is}
use Rattle.openrdson_core.proofs.bytes.contains.Goals as goal

pub returns : goal.returns
unfolding spec.contains
returns c =
    let s = c.args.s.now in
    let test : ℕ → Bool = λ k. spec.starts_with (drop k s) c.args.p.now in
    any_is test (length s) c.any.result
    (cases_from_any _ _ _ (λ i. test i ≡ true) (λ i. test i ≡ false) c.any.ensures.ran (YieldsList-from_range 0 (length s) (length s) refl (omega arith))
    (λ x q k. grind (arith, tests, rest_lent))
    (λ x q k. (search rules, grind (arith, tests, rest_lent))))
