-- `openrdson_extrude_polygon` meets its contract. Assumes nothing.
use mathlib.Core.Path.{ap}
use Rattle.lists.specs.Answer.{map_answer}
use Rattle.c_api.specs.Regions.{row_of}
use Rattle.c_api.proofs.Same.{same}
use Rattle.c_api.proofs.regions.openrdson_extrude_polygon.Goals as goal

pub returns : goal.returns
returns c = same (ap (map_answer row_of) c.extrude_polygon-built.ensures) c.give_region.ensures
