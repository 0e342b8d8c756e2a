-- What is unfolded to compute a contract on a whole mesh: its volume, and its nodes welded.
use Rattle.std.specs.Prelude.{⊤}
use Rattle.lists.specs.Lists.{put, runs, elems, first, fold_below, any_below}
use Rattle.meshing.specs.Whole.{nodes_in, elements_fault, mesh_fault}
use Rattle.meshing.specs.Volumes.{norm, triangle_area, mean_height, prism_volume, reach, box_volume, element_volume, volume_below, mesh_volume}
use Rattle.meshing.specs.Welds.{same, same_key, key_at, is_first, new_number, renumbered, welded, fit_welded, weld_nodes}
use Rattle.worked.proofs.OnShapes.{on_meshes}

unfoldable pub on_volumes : ⊤
unfolding on_meshes fold_below nodes_in elements_fault mesh_fault norm triangle_area mean_height prism_volume reach box_volume element_volume volume_below mesh_volume
on_volumes = tt

unfoldable pub on_welds : ⊤
unfolding on_meshes first any_below put elems runs nodes_in elements_fault mesh_fault same same_key key_at is_first new_number renumbered welded fit_welded weld_nodes
on_welds = tt
