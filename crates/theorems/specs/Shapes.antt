-- Worked shapes in one list, whose one claim (proofs/Shapes) is that the definitions give each shape its answer.
use Rattle.std.specs.Prelude.{ℕ, ◌≡◌, Bool, true, List, [], ◌∷◌, map, pos, length, replicate, Float}
use Rattle.std.specs.Float.{binary64}
use Rattle.std.specs.Float.Ieee.{of_int, of_bits}
use Rattle.lists.specs.Answer.{Answer, refused, given, map_answer}
use Rattle.binary64.specs.Constants.{zero64}
use Rattle.openrdson_core.specs.Points.{of_ring, the_point}
use Rattle.openrdson_core.specs.Area.{signed_area}
use Rattle.openrdson_core.specs.Rectangle.{is_rectangle}
use Rattle.openrdson_core.specs.Bounds.{the_bbox}
use Rattle.openrdson_core.specs.Mesh.{Mesh, the_mesh, the_counts, unused}
use Rattle.openrdson_core.specs.declared.bounds.Bbox.{Bbox}
use Rattle.openrdson_core.specs.declared.points.Point.{Point}
use Rattle.meshing.specs.Ring.{kept, gathered}
use Rattle.meshing.specs.Triangles.{Triangle, tri}
use Rattle.meshing.specs.Ears.{triangles_of}
use Rattle.meshing.specs.Cells.{real, cell_count}
use Rattle.meshing.specs.Added.{Part}
use Rattle.meshing.specs.Boxes.{mesh_box}
use Rattle.meshing.specs.Prisms.{mesh_prism}

-- a ring, an axis or a box, and what is said of it
pub data Shape : Type 0 where
  -- its triangles, or a refusal
  clips : List Point → Answer (List Triangle) → Shape
  -- its signed area
  measures : List Point → Answer Float → Shape
  -- whether it is a rectangle, and so a box
  is_box : List Point → Answer Bool → Shape
  -- of an extent and a cell size: the cells
  counts : Float → Float → Answer ℕ → Shape
  -- of a box, its two heights and one cell size: how many nodes it has, and the node places of its hexes
  meshes : Bbox → Float → Float → Float → Answer (ℕ × List ℕ) → Shape
  -- of a prism's footprint: how many nodes it has, and the node places of its elements
  prisms : List Point → Answer (ℕ × List ℕ) → Shape
  -- the places that cleaning keeps, and those that cleaning keeps of what is left
  cleans : List Point → List ℕ → List ℕ → Shape

abbrev pub xs_of : List Point → List Float
xs_of ps = map (λ (p : Point). p.x) ps

abbrev pub ys_of : List Point → List Float
ys_of ps = map (λ (p : Point). p.y) ps

-- a mesh with room for 16 nodes and four elements
abbrev lent : Mesh
lent =
    the_mesh (replicate 16 zero64) (replicate 16 zero64) (replicate 16 zero64) (replicate 4 0) (replicate 32 0) (replicate 4 0)

-- how many nodes, and the node places
abbrev size_and_places : Part → ℕ × List ℕ
size_and_places p = (length p.xs, p.places)

-- what the definitions say is what the shape says
abbrev pub Holds : Shape → Type 0
Holds (clips ps a) = triangles_of (xs_of ps) (ys_of ps) ≡ a
Holds (measures ps a) = of_ring (xs_of ps) (ys_of ps) (signed_area (xs_of ps) (ys_of ps)) ≡ a
Holds (is_box ps a) = of_ring (xs_of ps) (ys_of ps) (is_rectangle (xs_of ps) (ys_of ps)) ≡ a
Holds (counts e c a) = cell_count e c ≡ a
Holds (meshes b z0 z1 cell a) = map_answer size_and_places (mesh_box b z0 z1 1 (record { lateral_cell = cell; z_cell = cell }) (the_counts 0 0) lent) ≡ a
Holds (prisms ps a) = map_answer size_and_places (mesh_prism (real 0) (real 1) 0 (length ps) 1 (the_counts 0 0) (xs_of ps) (ys_of ps) lent) ≡ a
Holds (cleans ps ks js) = (kept (xs_of ps) (ys_of ps) ≡ ks) × (kept (gathered (xs_of ps) ks) (gathered (ys_of ps) ks) ≡ js)

-- every shape of a list holds
abbrev pub AllHold : List Shape → Type 0
AllHold [] = Unit
AllHold (s ∷ ss) = Holds s × AllHold ss

-- the point (a, b)
abbrev pt : ℕ → ℕ → Point
pt a b = the_point (of_int binary64 (pos a)) (of_int binary64 (pos b))

-- (-1.5e-16, 0) and (1.5e-16, 0)
abbrev left_of_origin : Point
left_of_origin = the_point (of_bits binary64 0xbca5_9e05_f1e2_674d) (of_int binary64 (pos 0))

abbrev right_of_origin : Point
right_of_origin = the_point (of_bits binary64 0x3ca5_9e05_f1e2_674d) (of_int binary64 (pos 0))

-- a prism's six nodes and two unused places, before those of others
abbrev prism_of : ℕ → ℕ → ℕ → ℕ → ℕ → ℕ → List ℕ → List ℕ
prism_of a b c d e f others = a ∷ b ∷ c ∷ d ∷ e ∷ f ∷ unused ∷ unused ∷ others

-- -0.5
abbrev minus_half : Float
minus_half = of_bits binary64 0xbfe0_0000_0000_0000

-- 2 + 2^-40 and 2 + 2^-38
abbrev hardly_over_two : Float
hardly_over_two = of_bits binary64 0x4000_0000_0000_0800

abbrev over_two : Float
over_two = of_bits binary64 0x4000_0000_0000_2000

abbrev pub shapes : List Shape
shapes =
    clips (pt 0 0 ∷ pt 2 0 ∷ pt 2 2 ∷ pt 0 2 ∷ []) (given (tri 3 0 1 ∷ tri 1 2 3 ∷ []))
    ∷ clips (pt 0 0 ∷ pt 4 0 ∷ pt 1 1 ∷ pt 0 4 ∷ []) (given (tri 0 1 2 ∷ tri 0 2 3 ∷ []))
    ∷ measures (pt 0 0 ∷ pt 0 1 ∷ pt 1 0 ∷ []) (given minus_half)
    ∷ clips (pt 0 0 ∷ pt 0 1 ∷ pt 1 0 ∷ []) (given (tri 2 1 0 ∷ []))
    ∷ clips (pt 0 0 ∷ pt 1 1 ∷ pt 2 2 ∷ pt 3 3 ∷ []) (refused 4)
    ∷ clips (pt 0 0 ∷ pt 1 1 ∷ pt 2 2 ∷ []) (given (tri 0 1 2 ∷ []))
    ∷ is_box (pt 0 0 ∷ pt 1 1 ∷ pt 1 0 ∷ pt 0 1 ∷ []) (given true)
    ∷ meshes (the_bbox (real 0) (real 0) (real 2) (real 1)) (real 0) (real 1) (real 1)
    (given (12, 0 ∷ 1 ∷ 4 ∷ 3 ∷ 6 ∷ 7 ∷ 10 ∷ 9 ∷ 1 ∷ 2 ∷ 5 ∷ 4 ∷ 7 ∷ 8 ∷ 11 ∷ 10 ∷ []))
    ∷ counts hardly_over_two (real 1) (given 2)
    ∷ counts over_two (real 1) (given 3)
    ∷ prisms (pt 0 0 ∷ pt 0 1 ∷ pt 0 2 ∷ []) (refused 11)
    ∷ prisms (pt 0 0 ∷ pt 2 0 ∷ pt 2 1 ∷ pt 1 1 ∷ pt 1 2 ∷ pt 0 2 ∷ [])
    (given (16, prism_of 0 1 2 4 5 6 (prism_of 0 2 3 4 6 7 (prism_of 8 9 10 12 13 14 (prism_of 8 10 11 12 14 15 [])))))
    -- a ring that cleaning once more changes again
    ∷ cleans (pt 0 0 ∷ pt 2 1 ∷ pt 1 2 ∷ left_of_origin ∷ right_of_origin ∷ []) (0 ∷ 1 ∷ 2 ∷ 3 ∷ []) (0 ∷ 1 ∷ 2 ∷ [])
    -- the first corner turns right and is passed over; a vertex on a triangle's side
    ∷ clips (pt 1 1 ∷ pt 0 4 ∷ pt 0 0 ∷ pt 4 0 ∷ []) (given (tri 0 1 2 ∷ tri 0 2 3 ∷ []))
    ∷ clips (pt 0 0 ∷ pt 4 0 ∷ pt 2 2 ∷ pt 0 4 ∷ []) (given (tri 0 1 2 ∷ tri 0 2 3 ∷ []))
    -- a footprint that is clipped: two prisms on bottom nodes 0 to 3 and top nodes 4 to 7
    ∷ prisms (pt 0 0 ∷ pt 4 0 ∷ pt 1 1 ∷ pt 0 4 ∷ []) (given (8, prism_of 0 1 2 4 5 6 (prism_of 0 2 3 4 6 7 [])))
    -- the most cells of an axis, and one more
    ∷ counts (real 4096) (real 1) (given 4096)
    ∷ counts (real 4097) (real 1) (refused 7)
    ∷ []
