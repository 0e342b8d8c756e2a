-- What is unfolded to compute a contract on a meshed prism, or on a region.
use Rattle.std.specs.Prelude.{⊤}
use lib.Ieee.{of_int}
use mathlib.Core.Bool.{xor}
use Rattle.lists.specs.Lists.{put, runs, elems, first}
use Rattle.lists.specs.Sorts.{slot, insert_by, sort_onto}
use Rattle.worked.proofs.OnShapes.{on_meshes, on_shapes}
use Rattle.meshing.specs.Ring.{keep, drop_last, kept}
use Rattle.meshing.specs.Ears.{in_triangle, blocks, is_clear, is_ear_of, triangles_of}
use Rattle.meshing.specs.Added.{fit_part}
use Rattle.meshing.specs.Rectilinear.{largest_size, is_rectilinear}
use Rattle.meshing.specs.Levels.{apart_from, apart, levels}
use Rattle.meshing.specs.Crossings.{spans, line_at, edge_at, crossings}
use Rattle.meshing.specs.Quads.{quad_area, is_flat, quad_in, quad_of, quads_between, band_quads, quads_of}
use Rattle.meshing.specs.Scanline.{even_band, band_in, scanline_of, quads_part}
use Rattle.meshing.specs.Prisms.{triangles_part, ring_part, prism_part, mesh_prism}
use Rattle.meshing.specs.Regions.{mesh_region}
use Rattle.worked_meshed.proofs.OnRegions.{on_boxes}

unfoldable pub on_prisms : ⊤
unfolding on_meshes on_shapes of_int xor put runs elems first slot insert_by sort_onto keep drop_last kept in_triangle blocks is_clear is_ear_of triangles_of fit_part largest_size is_rectilinear apart_from apart levels spans line_at edge_at crossings quad_area is_flat quad_in quad_of quads_between band_quads quads_of even_band band_in scanline_of quads_part triangles_part ring_part prism_part mesh_prism
on_prisms = tt

unfoldable pub on_regions : ⊤
unfolding on_boxes on_prisms mesh_region
on_regions = tt
