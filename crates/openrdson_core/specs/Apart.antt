-- Points that show, before the bounds are known, that a ring is no rectangle. Contracts of private functions and of `is_within` of `Points` and `Ring`
-- cite these definitions.
use Rattle.std.specs.Prelude.{Bool, not, ◌&&◌, ◌||◌, List, length, Float}
use Rattle.std.specs.Float.Ieee.{le}
use Rattle.lists.specs.Lists.{all_below}
use Rattle.binary64.specs.Numbers.{◌⊕◌, ◌⊖◌, ◌⊗◌, at, abs}
use Rattle.binary64.specs.Constants.{tolerance9}

-- every coordinate is at most limit in size
abbrev pub points_within : Float → List Float → List Float → Bool
points_within limit xs ys = all_below (length xs) (λ i. le (abs (at xs i)) limit && le (abs (at ys i)) limit)

-- no two of the three are within t of each other
abbrev pub are_apart : Float → Float → Float → Float → Bool
are_apart t a b c = not (le (abs (a ⊖ b)) t) && not (le (abs (b ⊖ c)) t) && not (le (abs (a ⊖ c)) t)

-- the largest tolerance of a ring whose points are within limit: its sides are at most twice that
abbrev pub tolerance_within : Float → Float
tolerance_within limit = tolerance9 ⊗ (limit ⊕ limit)

-- points 0, 2 and 3 have three x, or three y, that are farther than t from each other
abbrev pub three_apart : Float → List Float → List Float → Bool
three_apart t xs ys = are_apart t (at xs 0) (at xs 2) (at xs 3) || are_apart t (at ys 0) (at ys 2) (at ys 3)
