-- A turn writes the plan of row i.
use Rattle.std.proofs.Common.{◌<◌, ◌∙◌, sym, ap, arith, zero-add, length}
use Rattle.std.specs.Prelude.{true}
use Rattle.lists.proofs.Fills.{one_elem}
use Rattle.openrdson_core.specs.SoundBlocks.{sound_bytes}
use Rattle.openrdson_core.specs.declared.blocks.Cell.TheVariants.{Number, Name}
use Rattle.openrdson_core.proofs.BlockLaws.{counted}
use Rattle.geometry.specs.Plans.{plan_of_name}
use Rattle.geometry.proofs.table.fill_plans.Goals as goal

pub loop-i-preserved : goal.loop-i-preserved
loop-i-preserved c =
    let few = (counted Number Name true c.args.blocks.names.bytes.now c.args.blocks.names.sound).few in
    let inside : c.loop-i.i < length c.args.plans.now = omega (arith, few, c.rows-i-end.ensures, c.loop-i-test.true, c.told-plans) in
    one_elem c.loop-i.invariant (sym (zero-add c.loop-i.i)) inside
    (c.plan_of_name.ensures ∙ ap (plan_of_name (sound_bytes c.args.blocks)) c.name_at.ensures)
