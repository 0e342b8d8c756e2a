-- `find_pattern` meets its contract: what std's `find` answers. Assumes nothing.
use Rattle.std.proofs.Common.{◌≡◌, ◌∙◌, ◌+◌, ◌*◌, [], ◌∷◌, ℕ, Bool, true, false, eqb, get_or, ap, rules, arith, tests}
use Rattle.std.specs.Int.{w16, from_le_bytes}
use Rattle.std.proofs.lemmas.Iterator.{first_from_Range}
use Rattle.std.proofs.iter.Serving.{serving}
use Rattle.lists.specs.Lists.{first}
use Rattle.lists.proofs.Searches.{first_same}
use Rattle.openrdson_core.specs.Bytes.{little}
use Rattle.openrdson_core.specs.Blocks.{count, key_at}
use Rattle.openrdson_core.specs.Layout.{row_of_pattern}
use Rattle.openrdson_core.specs.declared.blocks.Cell.TheVariants.{Number}
use Rattle.openrdson_core.proofs.BlockLaws.{block_counts}
use Rattle.openrdson_core.proofs.ByteLaws.{two_bytes_at}
use Rattle.openrdson_core.proofs.Ranges.{found_is}
use Rattle.openrdson_core.proofs.layout.LayerNames.find_pattern.Goals as goal

pub find-requires-clause-callable : goal.find-requires-clause-callable
find-requires-clause-callable c = let few = block_counts _ _ _ _ c.args.self.sound in grind (serving, few)

pub returns : goal.returns
unfolding row_of_pattern
returns c =
    let s = c.args.self.bytes.now in
    let few = block_counts _ _ _ _ c.args.self.sound in
    let read : ℕ → Bool = λ i. eqb (from_le_bytes w16 (get_or s (2 + i * 2) 0 ∷ get_or s (2 + i * 2 + 1) 0 ∷ [])) c.args.bits in
    found_is read c.rows.result c.find.result
    (first_from_Range _ _ _ _ (λ i. read i ≡ true) (λ i. read i ≡ false) c.find.ensures.ran
    (λ x q k. grind (arith, tests))
    (λ x q k. (search rules, grind (arith, tests))))
    ∙ ap (λ (n : ℕ). first read n 0) c.rows.ensures
    ∙ first_same read (λ i. eqb (little (key_at Number s i)) c.args.bits) (count s) 0 (λ l _ b. ap (λ v. eqb v c.args.bits) (two_bytes_at s (2 + l * 2) (omega (arith, few.2, b))))
