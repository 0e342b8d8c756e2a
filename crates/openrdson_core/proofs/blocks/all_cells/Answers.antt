-- `all_cells` meets its contract: what `all` answers. Assumes nothing.
use Rattle.std.proofs.Common.{◌≡◌, ◌+◌, ◌*◌, true, false, refl, rules, arith, tests, ℕ, Bool}
use Rattle.std.proofs.lemmas.Iterator.{cases_from_all, YieldsList-from_range}
use Rattle.lists.specs.Lists.{part}
use Rattle.lists.proofs.Parts.{part_lent}
use Rattle.openrdson_core.specs.Blocks.{width_of, cell_ok}
use Rattle.openrdson_core.proofs.Ranges.{all_is}
use Rattle.openrdson_core.proofs.blocks.all_cells.Goals as goal

pub returns : goal.returns
returns c =
    let a = c.args in
    let test : ℕ → Bool = λ k. cell_ok a.cell (part (a.from + k * width_of a.cell) (width_of a.cell) a.s.now) in
    all_is test a.n c.all.result
    (cases_from_all _ _ _ (λ i. test i ≡ true) (λ i. test i ≡ false) c.all.ensures.ran (YieldsList-from_range 0 a.n a.n refl (omega arith))
    (λ x q k. (search rules, grind (arith, tests, part_lent)))
    (λ x q k. grind (arith, tests, part_lent)))
