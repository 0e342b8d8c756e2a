-- What is unfolded to compute a contract on a cleaned ring and its triangles.
use Rattle.std.specs.Prelude.{⊤}
use Rattle.lists.specs.Lists.{put, runs, elems, first}
use Rattle.worked.proofs.OnShapes.{on_shapes}
use Rattle.meshing.specs.Ring.{keep, drop_last, kept, dedup_ring}
use Rattle.meshing.specs.Ears.{in_triangle, blocks, is_clear, is_ear_of, triangles_of}
use Rattle.meshing.specs.Triangulate.{fitted, cutting, triangulate_polygon}

unfoldable pub on_rings : ⊤
unfolding on_shapes put runs elems first keep drop_last kept dedup_ring in_triangle blocks is_clear is_ear_of triangles_of fitted cutting triangulate_polygon
on_rings = tt
