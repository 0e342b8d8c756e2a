-- `is_in_range` meets its contract: what `all` answers. Assumes nothing.
use Rattle.std.proofs.Common.{◌≡◌, ◌∙◌, ◌+◌, ◌*◌, true, false, refl, rules, arith, tests, ap, ℕ, Bool}
use Rattle.std.proofs.lemmas.Iterator.{cases_from_all, YieldsList-from_range}
use Rattle.std.proofs.iter.Serving.{serving}
use Rattle.lists.specs.Lists.{part, all_below}
use Rattle.lists.proofs.Parts.{part_lent}
use Rattle.openrdson_core.specs.Blocks.{count}
use Rattle.openrdson_core.specs.Tech.{figures_in, stack_in}
use Rattle.openrdson_core.proofs.BlockLaws.{block_counts}
use Rattle.openrdson_core.proofs.Ranges.{all_is}
use Rattle.openrdson_core.proofs.tech.Stack.is_in_range.Goals as goal

pub all-requires-clause-callable : goal.all-requires-clause-callable
all-requires-clause-callable c = let few = block_counts _ _ _ _ c.args.self.sound in grind (serving, few)

pub returns : goal.returns
unfolding stack_in
returns c =
    let s = c.args.self.bytes.now in
    let test : ℕ → Bool = λ k. figures_in (part (2 + count s * 32 + k * 17) 17 s) in
    all_is test c.rows-n.result c.all.result
    (cases_from_all _ _ _ (λ i. test i ≡ true) (λ i. test i ≡ false) c.all.ensures.ran (YieldsList-from_range 0 c.rows-n.result c.rows-n.result refl (omega arith))
    (λ x q k. (search rules, grind (arith, tests, part_lent)))
    (λ x q k. grind (arith, tests, part_lent)))
    ∙ ap (λ (n : ℕ). all_below n test) c.rows-n.ensures
