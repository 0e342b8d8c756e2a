use Rattle.c_api.specs.Lookups.{NameStands, name_given}
use Rattle.c_api.proofs.Lookups.{same_as, said_as, both_ok, name_stands}
use Rattle.openrdson_core.specs.Maps.{placed}
use Rattle.std.specs.Prelude.{option_map}
use Rattle.c_api.proofs.blocks.openrdson_physical_name.Goals as goal

pub returns : goal.returns
returns c = let a = c.args in
    let p = c.name_place in
    same_as p.ensures.value
    (said_as (NameStands a.conducting.now a.via.now a.name.now) (option_map (placed a.conducting.now a.via.now)) name_given p.result
    (both_ok p.result (name_stands a.conducting.now a.via.now a.name.now) p.ensures.within p.ensures.start) c.give_name.ensures)
