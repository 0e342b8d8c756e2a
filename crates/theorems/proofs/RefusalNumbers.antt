-- A region that is refused has a number from 1 on: 0 says that it was meshed. Assumes nothing.
use Prim.Native.Nat.{ℕ, ◌+◌}
use mathlib.Core.Bool.{◌&&◌}
use mathlib.Core.List.{List}
use native.Mathlib.Omega.{arith}
use lib.Dec.{eqb, leb}
use lib.ListN.{length, get_or}
use lib.Ieee.{Float, lt}
use Rattle.lists.specs.Answer.{Answer, refused, given, unless, and_then, map_answer}
use Rattle.lists.specs.Lists.{part, all_of}
use Rattle.lists.proofs.Answers.{Numbered, given_numbered, unless_numbered, cond_numbered, then_numbered, map_numbered}
use Rattle.binary64.specs.Numbers.{at, at_most}
use Rattle.binary64.specs.Constants.{zero64}
use Rattle.openrdson_core.specs.Bounds.{the_bbox}
use Rattle.openrdson_core.specs.Mesh.{Mesh, parallel, within, fits}
use Rattle.openrdson_core.specs.Points.{ring_size, ring_fault, of_ring, points_in}
use Rattle.openrdson_core.specs.Solids.{points_fault, of_part, prism_fault, heights_in}
use Rattle.openrdson_core.specs.declared.bounds.Bbox.{Bbox}
use Rattle.openrdson_core.specs.declared.mesh.Counts.{Counts}
use Rattle.openrdson_core.specs.declared.solids.Solid.{Solid}
use Rattle.openrdson_core.specs.declared.solids.Solid.TheVariants.{Box, Prism}
use Rattle.geometry.specs.Regions.{Regions, material_ok, the_region, solid_at, region_at}
use Rattle.meshing.specs.declared.cells.MeshConfig.{MeshConfig}
use Rattle.meshing.specs.Added.{Part, fit_part}
use Rattle.meshing.specs.Boxes.{Axis, axis_of, is_wide, is_few, bounds_in, box_part, box_fits, box_of, mesh_box}
use Rattle.meshing.specs.Grid.{grid_nodes, grid_cells}
use Rattle.meshing.specs.Levels.{levels, bands_of}
use Rattle.meshing.specs.Quads.{quad_in, quads_of}
use Rattle.meshing.specs.Ears.{triangles_of}
use Rattle.meshing.specs.Prisms.{triangles_part, triangles_or, ring_part, prism_part, mesh_prism}
use Rattle.meshing.specs.Rectilinear.{is_rectilinear}
use Rattle.meshing.specs.Regions.{mesh_region}
use Rattle.meshing.specs.Ring.{kept, gathered}
use Rattle.meshing.specs.Scanline.{even_band, bands_in, scanline_of, quads_part}
use Rattle.meshing.specs.Triangles.{Triangle}
use Rattle.meshing.specs.Models.{Overrides, config_for, row_part}

-- ---- the calls

room_numbered : (c : Counts) (m : Mesh) (x y z : Axis) → Numbered (box_fits c m x y z)
unfolding box_fits
room_numbered c m x y z =
    unless_numbered (fits (grid_nodes x.cells y.cells z.cells) c.nodes (length m.xs)) 12 (omega arith)
    (unless_numbered (fits (grid_cells x.cells y.cells z.cells) c.elements (length m.kinds)) 12 (omega arith)
    (given_numbered (box_part c.nodes x y z)))

axes_numbered : (config : MeshConfig) (c : Counts) (m : Mesh) (x y z : Axis) → Numbered (box_of config c m x y z)
unfolding box_of
axes_numbered config c m x y z =
    unless_numbered (is_wide x && is_wide y && is_wide z) 5 (omega arith)
    (unless_numbered (at_most 20 config.lateral_cell && at_most 20 config.z_cell) 1 (omega arith)
    (unless_numbered (lt zero64 config.lateral_cell && lt zero64 config.z_cell) 6 (omega arith)
    (unless_numbered (is_few x && is_few y && is_few z) 7 (omega arith)
    (room_numbered c m x y z))))

box_numbered : (b : Bbox) (z0 z1 : Float) (material : ℕ) (config : MeshConfig) (c : Counts) (m : Mesh) → Numbered (mesh_box b z0 z1 material config c m)
unfolding mesh_box
box_numbered b z0 z1 material config c m =
    unless_numbered (parallel m) 16 (omega arith)
    (unless_numbered (within c m) 15 (omega arith)
    (unless_numbered (leb material 768) 15 (omega arith)
    (unless_numbered (bounds_in b z0 z1) 1 (omega arith)
    (axes_numbered config c m (axis_of b.min_x b.max_x config.lateral_cell) (axis_of b.min_y b.max_y config.lateral_cell) (axis_of z0 z1 config.z_cell)))))

fit_numbered : (c : Counts) (m : Mesh) (p : Part) → Numbered (fit_part c m p)
unfolding fit_part
fit_numbered c m p =
    unless_numbered (fits (length p.xs) c.nodes (length m.xs)) 12 (omega arith)
    (unless_numbered (fits (length p.kinds) c.elements (length m.kinds)) 12 (omega arith) (given_numbered p))

scan_numbered : (xs ys : List Float) → Numbered (scanline_of xs ys)
unfolding scanline_of
scan_numbered xs ys =
    unless_numbered (leb 3 (length xs)) 3 (omega arith)
    (unless_numbered (leb 2 (length (levels ys))) 9 (omega arith)
    (unless_numbered (all_of (even_band xs ys) (bands_of (levels ys))) 10 (omega arith)
    (unless_numbered (bands_in xs ys (bands_of (levels ys))) 1 (omega arith)
    (unless_numbered (leb 1 (length (quads_of xs ys))) 11 (omega arith)
    (unless_numbered (all_of quad_in (quads_of xs ys)) 1 (omega arith)
    (given_numbered (quads_of xs ys)))))))

part_numbered : (base : ℕ) (z0 z1 : Float) (xs ys : List Float) → Numbered (ring_part base z0 z1 xs ys)
unfolding ring_part
part_numbered base z0 z1 xs ys =
    cond_numbered (is_rectilinear xs ys) scanned (clipped (triangles_of us vs))
  where
    us : List Float
    us = gathered xs (kept xs ys)

    vs : List Float
    vs = gathered ys (kept xs ys)

    scanned : Numbered (map_answer (quads_part base z0 z1) (scanline_of xs ys))
    scanned = map_numbered (quads_part base z0 z1) (scanline_of xs ys) (scan_numbered xs ys)

    clipped : (a : Answer (List Triangle)) → Numbered (triangles_or base z0 z1 us vs a (map_answer (quads_part base z0 z1) (scanline_of xs ys)))
    clipped (refused n) = scanned
    clipped (given ts) = given_numbered (triangles_part base z0 z1 us vs ts)

ring_numbered : (xs ys : List Float) → Numbered (ring_fault xs ys)
unfolding ring_fault
ring_numbered xs ys =
    then_numbered (ring_size (length xs) (length ys)) (λ _. unless (points_in xs ys) 1 (given tt))
    (unless_numbered (eqb (length xs) (length ys)) 16 (omega arith) (unless_numbered (leb (length xs) 512) 2 (omega arith) (given_numbered tt)))
    (λ _. unless_numbered (points_in xs ys) 1 (omega arith) (given_numbered tt))

points_numbered : (m n start count : ℕ) → Numbered (points_fault m n start count)
points_numbered m n start count =
    unless_numbered (eqb m n) 16 (omega arith) (unless_numbered (leb (start + count) m) 15 (omega arith) (unless_numbered (leb m 2097152) 2 (omega arith) (given_numbered tt)))

module _ (z0 z1 : Float) (start count : ℕ) (px py : List Float) where
  fault_numbered : Numbered (prism_fault px py z0 z1 start count)
  fault_numbered =
      then_numbered (of_part px py start count (λ _ _. tt {0})) (λ _. unless (heights_in z0 z1) 1 (given tt))
      (then_numbered (points_fault (length px) (length py) start count) (λ _. of_ring (part start count px) (part start count py) (tt {0}))
      (points_numbered (length px) (length py) start count)
      (λ _. then_numbered (ring_fault (part start count px) (part start count py)) (λ _. given (tt {0})) (ring_numbered (part start count px) (part start count py)) (λ _. given_numbered tt)))
      (λ _. unless_numbered (heights_in z0 z1) 1 (omega arith) (given_numbered tt))

  prism_numbered : (material : ℕ) (c : Counts) (m : Mesh) → Numbered (mesh_prism z0 z1 start count material c px py m)
  unfolding mesh_prism prism_part
  prism_numbered material c m =
      unless_numbered (parallel m) 16 (omega arith)
      (unless_numbered (eqb (length px) (length py)) 16 (omega arith)
      (unless_numbered (within c m) 15 (omega arith)
      (unless_numbered (leb material 768) 15 (omega arith)
      (then_numbered (prism_fault px py z0 z1 start count) (λ _. unless (lt z0 z1) 8 (and_then (prism_part c.nodes z0 z1 (part start count px) (part start count py)) (fit_part c m))) fault_numbered
      (λ _. unless_numbered (lt z0 z1) 8 (omega arith)
      (then_numbered (prism_part c.nodes z0 z1 (part start count px) (part start count py)) (fit_part c m) (part_numbered c.nodes z0 z1 _ _) (fit_numbered c m)))))))

pub region_numbered : (s : Solid) (material : ℕ) (config : MeshConfig) (c : Counts) (px py : List Float) (m : Mesh) → Numbered (mesh_region s material config c px py m)
unfolding mesh_region
region_numbered (Box x0 y0 x1 y1 z0 z1) material config c px py m =
    unless_numbered (eqb (length px) (length py)) 16 (omega arith) (box_numbered (the_bbox x0 y0 x1 y1) z0 z1 material config c m)
region_numbered (Prism z0 z1 start count) material config c px py m = prism_numbered z0 z1 start count px py material c m

solid_numbered : (r : Regions) (points i : ℕ) → Numbered (solid_at r points i)
unfolding solid_at
solid_numbered r points i =
    cond_numbered (eqb (get_or r.kinds i 0) 0)
    (given_numbered (Box (at r.min_x i) (at r.min_y i) (at r.max_x i) (at r.max_y i) (at r.z_bottom i) (at r.z_top i)))
    (unless_numbered (eqb (get_or r.kinds i 0) 1) 15 (omega arith)
    (unless_numbered (leb (get_or r.starts i 0 + get_or r.counts i 0) points) 15 (omega arith)
    (given_numbered (Prism (at r.z_bottom i) (at r.z_top i) (get_or r.starts i 0) (get_or r.counts i 0)))))

-- a row that is refused
pub row_numbered : (r : Regions) (px py : List Float) (o : Overrides) (default : MeshConfig) (i : ℕ) (c : Counts) (m : Mesh) → Numbered (row_part r px py o default i c m)
unfolding row_part region_at
row_numbered r px py o default i c m =
    then_numbered (region_at r (length px) i) (λ g. mesh_region g.solid g.material_id.0 (config_for o default g.material_id.0) c px py m)
    (unless_numbered (material_ok (get_or r.materials i 0)) 15 (omega arith)
    (map_numbered (the_region (get_or r.materials i 0) (get_or r.nets i 0) (get_or r.polygons i 0)) (solid_at r (length px) i) (solid_numbered r (length px) i)))
    (λ g. region_numbered g.solid g.material_id.0 (config_for o default g.material_id.0) c px py m)
