-- The count, 12, and the writing.
use Rattle.openrdson_core.specs.SoundBlocks.{sound_bytes}
use Rattle.geometry.specs.Regions.{held_regions}
use Rattle.geometry.specs.Polygons.{polygons_of}
use Rattle.geometry.proofs.AssembleLaws.{regions_short, outcomes_short, all_written, used_room}
use Rattle.geometry.proofs.stack.stack_checked.Goals as goal

pub returns-then-rows-regions-clause-stack : goal.returns-then-rows-regions-clause-stack
returns-then-rows-regions-clause-stack c = regions_short (sound_bytes c.args.blocks) (polygons_of c.args.polygons.lists) (held_regions c.args.regions.now) c.args.outcomes.now _ _ c.fill_plans.ensures c.count_rows-rows.ensures c.if-rows-regions.true

pub returns-then-polygons-outcomes-clause-stack : goal.returns-then-polygons-outcomes-clause-stack
returns-then-polygons-outcomes-clause-stack c = outcomes_short (sound_bytes c.args.blocks) (polygons_of c.args.polygons.lists) (held_regions c.args.regions.now) c.args.outcomes.now _ _ c.fill_plans.ensures c.count_rows-rows.ensures c.if-rows-regions.false c.if-polygons-outcomes.true

pub place_polygons-requires-clause-room : goal.place_polygons-requires-clause-room
place_polygons-requires-clause-room c = used_room (sound_bytes c.args.blocks) (polygons_of c.args.polygons.lists) (held_regions c.args.regions.now) c.args.outcomes.now _ _ c.fill_plans.ensures c.count_rows-rows.ensures c.if-rows-regions.false

pub returns-clause-stack : goal.returns-clause-stack
returns-clause-stack c = all_written (sound_bytes c.args.blocks) (polygons_of c.args.polygons.lists) (held_regions c.args.regions.now) c.args.outcomes.now _ _ c.fill_plans.ensures c.count_rows-rows.ensures c.if-rows-regions.false c.if-polygons-outcomes.false c.place_polygons.ensures.rows c.place_polygons.ensures.told
