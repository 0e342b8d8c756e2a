-- Axis-aligned bounding boxes, as the Rust's `Bbox`: of equal values the first is kept.
use Rattle.std.specs.Prelude.{◌≡◌, ℕ, Bool, true, false, ◌&&◌, ◌||◌, cond, List, length, Float}
use Rattle.std.specs.Float.{inf}
use Rattle.std.specs.Float.Ieee.{lt}
use Rattle.lists.specs.Lists.{all_below, fold_below}
use Rattle.binary64.specs.Numbers.{◌⊕◌, ◌⊖◌, ◌⊘◌}
use Rattle.binary64.specs.Constants.{zero64, two64}
use Rattle.openrdson_core.specs.Points.{the_point, point_at, point_in}
use Rattle.openrdson_core.specs.declared.points.Point.{Point}
use Rattle.openrdson_core.specs.declared.bounds.Bbox.{Bbox}

-- the box from (a, b) to (c, d)
abbrev pub the_bbox : Float → Float → Float → Float → Bbox
the_bbox a b c d = record { min_x = a; min_y = b; max_x = c; max_y = d }

-- inverted: every point extends it
abbrev pub empty_bbox : Bbox
empty_bbox = the_bbox (inf false) (inf false) (inf true) (inf true)

-- the bounds are inverted in x or in y
abbrev pub is_empty : Bbox → Bool
is_empty b = lt b.max_x b.min_x || lt b.max_y b.min_y

-- its low corner and its high one are in range
abbrev pub corners_in : Bbox → Bool
corners_in b = point_in (the_point b.min_x b.min_y) && point_in (the_point b.max_x b.max_y)

-- x where it is below the bound, else the bound
abbrev pub lesser : Float → Float → Float
lesser x bound = cond (lt x bound) x bound

-- x where it is above the bound, else the bound
abbrev pub greater : Float → Float → Float
greater x bound = cond (lt bound x) x bound

abbrev pub extend_point : Bbox → Point → Bbox
extend_point b p =
    the_bbox (lesser p.x b.min_x) (lesser p.y b.min_y) (greater p.x b.max_x) (greater p.y b.max_y)

-- an empty box extends nothing
abbrev pub extend : Bbox → Bbox → Bbox
extend b other =
    cond (is_empty other) b
    (extend_point (extend_point b (the_point other.min_x other.min_y)) (the_point other.max_x other.max_y))

-- the extents in x and in y; zero for an empty box
abbrev pub width : Bbox → Float
width b = cond (is_empty b) zero64 (b.max_x ⊖ b.min_x)

abbrev pub height : Bbox → Float
height b = cond (is_empty b) zero64 (b.max_y ⊖ b.min_y)

abbrev pub center : Bbox → Point
center b = the_point ((b.min_x ⊕ b.max_x) ⊘ two64) ((b.min_y ⊕ b.max_y) ⊘ two64)

-- the empty box, extended by the points in order
unfoldable pub bounds_of : List Float → List Float → Bbox
bounds_of xs ys = fold_below (length xs) (λ b i. extend_point b (point_at xs ys i)) empty_bbox

-- the first n points are in range, and these are their bounds. Contracts of private functions cite this; no public one does.
pub record FirstBounds (xs ys : List Float) (n : ℕ) (bounds : Bbox) : Type 0 where
  pub total : bounds ≡ fold_below n (λ b i. extend_point b (point_at xs ys i)) empty_bbox
  pub in_range : all_below n (λ i. point_in (point_at xs ys i)) ≡ true
