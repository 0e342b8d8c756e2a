-- What is unfolded to compute a contract on a meshed model of boxes.
use Rattle.std.specs.Prelude.{⊤}
use Rattle.lists.specs.Lists.{fold_below}
use Rattle.geometry.specs.Regions.{even_regions, solid_at, region_at}
use Rattle.meshing.specs.Regions.{mesh_region}
use Rattle.meshing.specs.Models.{config_for, row_part, tried, mesh_model}
use Rattle.worked_meshed.proofs.OnRegions.{on_boxes}

unfoldable pub on_models : ⊤
unfolding on_boxes fold_below even_regions solid_at region_at mesh_region config_for row_part tried mesh_model
on_models = tt
