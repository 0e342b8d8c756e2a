-- `find` meets its contract: what std's `find` answers. Assumes nothing.
use Rattle.std.proofs.Common.{◌≡◌, ◌∙◌, ℕ, Bool, true, false, ap, rules, arith, tests}
use Rattle.std.proofs.lemmas.Iterator.{first_from_Range}
use Rattle.lists.specs.Lists.{first}
use Rattle.lists.proofs.Parts.{part_lent}
use Rattle.openrdson_core.specs.Bytes.{same, unpad}
use Rattle.openrdson_core.specs.Blocks.{row_of, key_at}
use Rattle.openrdson_core.specs.declared.blocks.Cell.TheVariants.{Name}
use Rattle.openrdson_core.proofs.Ranges.{found_is}
use Rattle.openrdson_core.proofs.blocks.Keys.find.Goals as goal

pub returns : goal.returns
unfolding row_of
returns c =
    let test : ℕ → Bool = λ i. same (unpad (key_at Name c.args.self.bytes.now i)) c.args.name.now in
    found_is test c.rows.result c.find.result
    (first_from_Range _ _ _ _ (λ i. test i ≡ true) (λ i. test i ≡ false) c.find.ensures.ran
    (λ x q k. grind (arith, tests, part_lent))
    (λ x q k. (search rules, grind (arith, tests, part_lent))))
    ∙ ap (λ (n : ℕ). first test n 0) c.rows.ensures
