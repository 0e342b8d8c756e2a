-- The row of the layer's number is a row, and so a place in the list.
use Rattle.std.proofs.Common.{◌≡◌, rules, arith}
use Rattle.std.specs.Prelude.{true, Some}
use Rattle.std.proofs.lemmas.List.{get_or_default}
use Rattle.openrdson_core.specs.Layout.{pattern_of, row_of_pattern}
use Rattle.openrdson_core.specs.declared.blocks.Cell.TheVariants.{Number, Name}
use Rattle.openrdson_core.proofs.BlockLaws.{counted}
use Rattle.openrdson_core.proofs.LayoutLaws.{layer_found}
use Rattle.geometry.specs.Table.{layer_plan}
use Rattle.geometry.proofs.table.plan_of_layer.Goals as goal

pub returns : goal.returns
unfolding layer_plan
returns c =
    let e : row_of_pattern c.args.names.bytes.now (pattern_of c.args.layer) ≡ Some c.in_ok-i.i = search rules in
    let inside = (layer_found c.args.names.bytes.now (pattern_of c.args.layer) c.in_ok-i.i e).1 in
    let few = (counted Number Name true c.args.names.bytes.now c.args.names.sound).few in
    rw e (get_or_default c.args.plans.now c.in_ok-i.i _ _ (omega (arith, inside, few, c.told-plans)))
