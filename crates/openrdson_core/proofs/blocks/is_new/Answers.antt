-- `is_new` meets its contract: what `all` answers. Assumes nothing.
use Rattle.std.proofs.Common.{◌≡◌, ◌+◌, ◌*◌, not, ◌||◌, true, false, refl, rules, arith, tests, eqb, ℕ, Bool}
use Rattle.std.proofs.lemmas.Iterator.{cases_from_all, YieldsList-from_range}
use Rattle.lists.specs.Lists.{part}
use Rattle.lists.proofs.Parts.{part_lent}
use Rattle.openrdson_core.specs.Bytes.{same}
use Rattle.openrdson_core.specs.Blocks.{head}
use Rattle.openrdson_core.proofs.ByteLaws.{same_is, heads_first}
use Rattle.openrdson_core.proofs.Ranges.{all_is}
use Rattle.openrdson_core.proofs.blocks.is_new.Goals as goal

pub returns : goal.returns
returns c =
    let test : ℕ → Bool = λ k. not (same (part (2 + k * c.args.w) c.args.w c.args.s.now) (part (2 + c.args.n * c.args.w) c.args.w c.args.s.now)) in
    let first : (k : ℕ) → (not (eqb (head (part (2 + k * c.args.w) c.args.w c.args.s.now)) (head (part (2 + c.args.n * c.args.w) c.args.w c.args.s.now))) || test k) ≡ test k = λ k. heads_first (part (2 + k * c.args.w) c.args.w c.args.s.now) (part (2 + c.args.n * c.args.w) c.args.w c.args.s.now) in
    all_is test c.args.n c.all.result
    (cases_from_all _ _ _ (λ i. test i ≡ true) (λ i. test i ≡ false) c.all.ensures.ran (YieldsList-from_range 0 c.args.n c.args.n refl (omega arith))
    (λ x q k. (search rules, grind (arith, tests, part_lent, same_is, first x)))
    (λ x q k. grind (arith, tests, part_lent, same_is, first x)))
