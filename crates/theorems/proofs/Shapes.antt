-- The one claim of the worked shapes: the definitions give each its answer. Assumes nothing.
use mathlib.Core.Path.{refl}
use lib.Ieee.{add, sub, mul, div, lt, eq, le, of_bits, of_int, round}
use Rattle.lists.specs.Lists.{runs, elems, fold_below, all_below, any_below, first}
use Rattle.binary64.specs.Numbers.{at_most, abs}
use Rattle.binary64.specs.Rounding.{ceil_capped}
use Rattle.openrdson_core.specs.Points.{ring_fault}
use Rattle.openrdson_core.specs.Area.{shoelace, signed_area}
use Rattle.openrdson_core.specs.Bounds.{bounds_of}
use Rattle.openrdson_core.specs.Rectangle.{on_corner, on_some_corner, fills_corners, fills_bounds}
use Rattle.meshing.specs.Ring.{keep, drop_last, kept}
use Rattle.meshing.specs.Ears.{in_triangle, blocks, is_clear, is_ear_of, triangles_of}
use Rattle.openrdson_core.specs.Mesh.{parallel_lengths, within_lengths, fits}
use Rattle.meshing.specs.Cells.{cells_for, cells_of, cell_count, axis_at}
use Rattle.meshing.specs.Grid.{plane, grid, hex_at, hex_places}
use Rattle.meshing.specs.Boxes.{box_part, box_fits, box_of, mesh_box}
use Rattle.lists.specs.Sorts.{slot, insert_by, sort_onto}
use mathlib.Core.Bool.{xor}
use Rattle.meshing.specs.Added.{fit_part}
use Rattle.meshing.specs.Rectilinear.{largest_size, is_rectilinear}
use Rattle.meshing.specs.Levels.{apart_from, apart, levels}
use Rattle.meshing.specs.Crossings.{spans, line_at, edge_at, crossings}
use Rattle.meshing.specs.Quads.{quad_area, is_flat, quad_in, quad_of, quads_between, band_quads, quads_of}
use Rattle.meshing.specs.Scanline.{even_band, band_in, scanline_of, quads_part}
use Rattle.meshing.specs.Prisms.{triangles_part, ring_part, prism_part, mesh_prism}
use Rattle.theorems.specs.Shapes.{AllHold, shapes}

pub shapes_hold : AllHold shapes
unfolding mesh_prism prism_part ring_part triangles_part fit_part scanline_of quads_part even_band band_in quads_of band_quads quads_between quad_of quad_in is_flat quad_area crossings edge_at line_at spans xor levels apart apart_from sort_onto insert_by slot is_rectilinear largest_size mesh_box box_of box_fits box_part hex_places hex_at grid plane axis_at parallel_lengths within_lengths fits cell_count cells_of cells_for ceil_capped triangles_of is_ear_of is_clear blocks in_triangle first all_below any_below runs elems signed_area shoelace fold_below kept drop_last keep ring_fault fills_bounds fills_corners on_some_corner on_corner bounds_of at_most abs add sub mul div lt eq le round of_bits of_int
shapes_hold = (refl, (refl, (refl, (refl, (refl, (refl, (refl, (refl, (refl, (refl, (refl, (refl, ((refl, refl), (refl, (refl, (refl, (refl, (refl, tt))))))))))))))))))
