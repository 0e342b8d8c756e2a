-- Whether a ring is rectilinear: each edge keeps x or y, within 1e-9 times the larger of 1.0 and the largest coordinate size.
use Rattle.std.specs.Prelude.{Bool, not, ◌&&◌, List, leb, length, Float}
use Rattle.std.specs.Float.Ieee.{lt}
use Rattle.lists.specs.Lists.{fold_below, all_below, next_of}
use Rattle.binary64.specs.Numbers.{◌⊖◌, ◌⊗◌, at, abs, larger}
use Rattle.binary64.specs.Constants.{zero64, one64, tolerance9}
use Rattle.openrdson_core.specs.Points.{point_at}
use Rattle.openrdson_core.specs.declared.points.Point.{Point}

-- the edge from a to b differs by more than eps in x and in y
abbrev pub is_slanted : Float → Point → Point → Bool
is_slanted eps a b = lt eps (abs (a.x ⊖ b.x)) && lt eps (abs (a.y ⊖ b.y))

module _ (xs ys : List Float) where
  -- the largest coordinate size
  unfoldable pub largest_size : Float
  largest_size = fold_below (length xs) (λ m i. larger (larger m (abs (at xs i))) (abs (at ys i))) zero64

  abbrev pub slant_tolerance : Float
  slant_tolerance = tolerance9 ⊗ larger largest_size one64

  unfoldable pub is_rectilinear : Bool
  is_rectilinear =
      leb 3 (length xs) && all_below (length xs) (λ i. not (is_slanted slant_tolerance (point_at xs ys i) (point_at xs ys (next_of (length xs) i))))
