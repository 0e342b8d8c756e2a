use Rattle.openrdson_core.specs.Tech.{via_names, start_of_ends}
use Rattle.std.specs.Prelude.{option_map}
use Rattle.c_api.specs.Lookups.{ViaStands, via_given}
use Rattle.c_api.proofs.Lookups.{same_as, said_as, both_ok, via_stands}
use Rattle.c_api.proofs.blocks.openrdson_via_layers.Goals as goal

pub returns : goal.returns
returns c = let a = c.args in
    let v = c.via_layers in
    let at = start_of_ends a.vias.now a.name.now in
    same_as v.ensures.value
    (said_as (ViaStands a.vias.now at) (option_map (via_names a.vias.now)) via_given v.result
    (both_ok v.result (via_stands a.vias.now at) v.ensures.within v.ensures.start) c.give_via.ensures)
