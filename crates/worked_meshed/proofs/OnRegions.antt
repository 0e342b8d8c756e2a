-- What is unfolded to compute a contract on a meshed box.
use Rattle.std.specs.Prelude.{⊤}
use lib.Ieee.{of_int}
use Rattle.lists.specs.Lists.{put, runs, elems}
use Rattle.worked.proofs.OnShapes.{on_meshes}
use Rattle.meshing.specs.Cells.{cells_for, cells_of, cell_count, axis_at, axis_coordinate}
use Rattle.meshing.specs.Grid.{plane, grid, hex_at, hex_places}
use Rattle.meshing.specs.Boxes.{box_part, box_fits, box_of, mesh_box}

unfoldable pub on_boxes : ⊤
unfolding on_meshes put runs elems of_int cells_for cells_of cell_count axis_at axis_coordinate plane grid hex_at hex_places box_part box_fits box_of mesh_box
on_boxes = tt
