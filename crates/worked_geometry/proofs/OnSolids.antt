-- What is unfolded to compute a contract on a solid region.
use Rattle.std.specs.Prelude.{⊤}
use Rattle.lists.specs.Answer.{fold_answer}
use Rattle.worked.proofs.OnShapes.{on_shapes}
use Rattle.geometry.specs.Extrude.{solid_of, region_of, extrude_polygon, extrude_box}
use Rattle.geometry.specs.Regions.{even_regions, solid_at, region_at}
use Rattle.geometry.specs.Volumes.{row_volume, total_volume}

unfoldable pub on_solids : ⊤
unfolding on_shapes fold_answer solid_of region_of extrude_polygon extrude_box even_regions solid_at region_at row_volume total_volume
on_solids = tt
