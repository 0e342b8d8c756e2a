-- Solids: what one is refused for, its heights, its footprint's bounds and its volume.
use Rattle.std.specs.Prelude.{ℕ, ◌+◌, Bool, ◌&&◌, List, eqb, leb, length, Float}
use Rattle.lists.specs.Answer.{Answer, given, unless, and_then}
use Rattle.lists.specs.Lists.{part}
use Rattle.binary64.specs.Numbers.{◌⊖◌, ◌⊗◌, abs, at_most}
use Rattle.openrdson_core.specs.Points.{of_ring}
use Rattle.openrdson_core.specs.Area.{area}
use Rattle.openrdson_core.specs.Bounds.{the_bbox, corners_in, bounds_of}
use Rattle.openrdson_core.specs.declared.bounds.Bbox.{Bbox}
use Rattle.openrdson_core.specs.declared.solids.Footprint.{Footprint}
use Rattle.openrdson_core.specs.declared.solids.Footprint.TheVariants.{Sides, Ring}
use Rattle.openrdson_core.specs.declared.solids.Heights.{Heights}
use Rattle.openrdson_core.specs.declared.solids.Solid.{Solid}
use Rattle.openrdson_core.specs.declared.solids.Solid.TheVariants.{Box, Prism}

-- what point lists of m and n entries, and a part of them, are refused for: 16, 15, 2
abbrev pub points_fault : ℕ → ℕ → ℕ → ℕ → Answer (Unit {0})
points_fault m n start count = unless (eqb m n) 16 (unless (leb (start + count) m) 15 (unless (leb m 2097152) 2 (given tt)))

-- that part of both
abbrev pub part_of : List Float → List Float → ℕ → ℕ → Answer (List Float × List Float)
part_of xs ys start count =
    and_then (points_fault (length xs) (length ys) start count) (λ _. given (part start count xs, part start count ys))

-- what a call on a part, taken as a ring, answers
abbrev pub of_part : {A : Type 0} → List Float → List Float → ℕ → ℕ → (List Float → List Float → A) → Answer A
of_part xs ys start count f =
    and_then (points_fault (length xs) (length ys) start count) (λ _.
    of_ring (part start count xs) (part start count ys) (f (part start count xs) (part start count ys)))

-- two heights are in range
abbrev pub heights_in : Float → Float → Bool
heights_in z0 z1 = at_most 20 z0 && at_most 20 z1

-- what two heights are refused for: 1
abbrev pub heights_fault : Float → Float → Answer (Unit {0})
heights_fault z0 z1 = unless (heights_in z0 z1) 1 (given tt)

-- a box has no part of the points, and looks at none: 16, 2, then 1 for its six numbers
abbrev pub box_fault : ℕ → ℕ → Bbox → Float → Float → Answer (Unit {0})
box_fault m n sides z0 z1 =
    and_then (points_fault m n 0 0) (λ _.
    unless (corners_in sides && heights_in z0 z1) 1 (given tt))

-- a prism's part is refused as a ring is: 16, 15, 2, 1, and then 1 for its heights
abbrev pub prism_fault : List Float → List Float → Float → Float → ℕ → ℕ → Answer (Unit {0})
prism_fault xs ys z0 z1 start count = and_then (of_part xs ys start count (λ _ _. tt {0})) (λ _. unless (heights_in z0 z1) 1 (given tt))

-- what a solid and the point lists are refused for
abbrev pub solid_fault : List Float → List Float → Solid → Answer (Unit {0})
solid_fault xs ys (Box x0 y0 x1 y1 z0 z1) = box_fault (length xs) (length ys) (the_bbox x0 y0 x1 y1) z0 z1
solid_fault xs ys (Prism z0 z1 start count) = prism_fault xs ys z0 z1 start count

-- what a call on a solid answers, where a is what it gives
abbrev pub of_solid : {A : Type 0} → List Float → List Float → Solid → A → Answer A
of_solid xs ys s a = and_then (solid_fault xs ys s) (λ _. given a)

abbrev pub z_bottom_of : Solid → Float
z_bottom_of (Box x0 y0 x1 y1 z0 z1) = z0
z_bottom_of (Prism z0 z1 start count) = z0

abbrev pub z_top_of : Solid → Float
z_top_of (Box x0 y0 x1 y1 z0 z1) = z1
z_top_of (Prism z0 z1 start count) = z1

abbrev pub heights_of : Solid → Heights
heights_of s = record { bottom = z_bottom_of s; top = z_top_of s }

-- the box with these sides between two heights
abbrev pub box_of : Bbox → Float → Float → Solid
box_of b z0 z1 = Box b.min_x b.min_y b.max_x b.max_y z0 z1

-- the solid on a footprint between two heights
abbrev pub solid_on : Footprint → Heights → Solid
solid_on (Sides b) h = box_of b h.bottom h.top
solid_on (Ring start count) h = Prism h.bottom h.top start count

-- the bounds of its footprint
unfoldable pub footprint : List Float → List Float → Solid → Bbox
footprint xs ys (Box x0 y0 x1 y1 z0 z1) = the_bbox x0 y0 x1 y1
footprint xs ys (Prism z0 z1 start count) = bounds_of (part start count xs) (part start count ys)

unfoldable pub volume : List Float → List Float → Solid → Float
volume xs ys (Box x0 y0 x1 y1 z0 z1) = abs ((x1 ⊖ x0) ⊗ (y1 ⊖ y0) ⊗ (z1 ⊖ z0))
volume xs ys (Prism z0 z1 start count) = area (part start count xs) (part start count ys) ⊗ abs (z1 ⊖ z0)
