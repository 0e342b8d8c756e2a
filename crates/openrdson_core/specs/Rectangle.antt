-- The rectangle test, as the Rust's `is_axis_aligned_rectangle`: every point lies on a corner of the bounding box, and each of the four corners has a point.
use Rattle.std.specs.Prelude.{Bool, false, ◌&&◌, ◌||◌, cond, List, length, Float}
use Rattle.std.specs.Float.Ieee.{le}
use Rattle.lists.specs.Lists.{all_below, any_below}
use Rattle.binary64.specs.Numbers.{◌⊖◌, ◌⊗◌, abs, larger}
use Rattle.binary64.specs.Constants.{zero64, tolerance9}
use Rattle.openrdson_core.specs.Points.{the_point, point_at}
use Rattle.openrdson_core.specs.Bounds.{width, height, bounds_of}
use Rattle.openrdson_core.specs.declared.points.Point.{Point}
use Rattle.openrdson_core.specs.declared.bounds.Bbox.{Bbox}

-- p is at most eps from the corner, in x and in y
unfoldable pub on_corner : Point → Float → Point → Bool
on_corner corner eps p = le (abs (p.x ⊖ corner.x)) eps && le (abs (p.y ⊖ corner.y)) eps

-- the corners of a box
abbrev pub low_left : Bbox → Point
low_left b = the_point b.min_x b.min_y

abbrev pub low_right : Bbox → Point
low_right b = the_point b.max_x b.min_y

abbrev pub high_right : Bbox → Point
high_right b = the_point b.max_x b.max_y

abbrev pub high_left : Bbox → Point
high_left b = the_point b.min_x b.max_y

-- p is on one of them
unfoldable pub on_some_corner : Bbox → Float → Point → Bool
on_some_corner b eps p = on_corner (low_left b) eps p || on_corner (low_right b) eps p || on_corner (high_right b) eps p || on_corner (high_left b) eps p

-- every point of the ring is on one of them
abbrev pub all_on_corners : List Float → List Float → Bbox → Float → Bool
all_on_corners xs ys b eps = all_below (length xs) (λ i. on_some_corner b eps (point_at xs ys i))

-- a point of the ring is on the corner
abbrev pub is_taken : List Float → List Float → Point → Float → Bool
is_taken xs ys corner eps = any_below (length xs) (λ i. on_corner corner eps (point_at xs ys i))

-- a point of the ring is on each of the four
abbrev pub all_corners_taken : List Float → List Float → Bbox → Float → Bool
all_corners_taken xs ys b eps = is_taken xs ys (low_left b) eps && is_taken xs ys (low_right b) eps && is_taken xs ys (high_right b) eps && is_taken xs ys (high_left b) eps

unfoldable pub fills_corners : List Float → List Float → Bbox → Float → Bool
fills_corners xs ys b eps = all_on_corners xs ys b eps && all_corners_taken xs ys b eps

-- of points with the bounds b: no side is flat, and the tolerance is 1e-9 of the larger side
unfoldable pub fills_bounds : List Float → List Float → Bbox → Bool
fills_bounds xs ys b =
    cond (le (width b) zero64 || le (height b) zero64) false (fills_corners xs ys b (tolerance9 ⊗ larger (width b) (height b)))

abbrev pub is_rectangle : List Float → List Float → Bool
is_rectangle xs ys = fills_bounds xs ys (bounds_of xs ys)
