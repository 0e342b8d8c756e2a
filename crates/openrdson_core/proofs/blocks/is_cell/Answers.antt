-- `is_cell` meets its contract: by the kind. Assumes nothing.
use Rattle.std.proofs.Common.{◌≤◌, ◌∙◌, sym, ap, arith, length, length-take, take_all}
use Rattle.openrdson_core.specs.Bytes.{name_ok}
use Rattle.openrdson_core.specs.Blocks.{width_of, cell_ok}
use Rattle.openrdson_core.specs.declared.blocks.Cell.{Cell}
use Rattle.openrdson_core.proofs.blocks.is_cell.Goals as goal

pub slice_bounds-is_name-end : goal.slice_bounds-is_name-end
slice_bounds-is_name-end c = omega (arith, length-take 32 c.args.c.now, c.requires ∙ ap width_of c.in-Name.is)

pub slice_bounds-is_name_or_none-end : goal.slice_bounds-is_name_or_none-end
slice_bounds-is_name_or_none-end c = omega (arith, length-take 32 c.args.c.now, c.requires ∙ ap width_of c.in-Ends.is)

pub returns-in-Name : goal.returns-in-Name
returns-in-Name c =
    let long : length c.args.c.now ≤ 32 = omega (arith, c.requires ∙ ap width_of c.in-Name.is) in
    c.is_name.ensures ∙ ap name_ok (take_all 32 c.args.c.now long) ∙ ap (λ (k : Cell). cell_ok k c.args.c.now) (sym c.in-Name.is)
