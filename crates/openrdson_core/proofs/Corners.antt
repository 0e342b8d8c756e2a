-- A point on one of four corners: at one of two sides in x and in y. Assumes nothing.
use mathlib.Core.Path.{◌≡◌, refl}
use mathlib.Core.Bool.{Bool, true, false, ◌&&◌, ◌||◌}

pub four_corners : (left right low high : Bool) → ((left || right) && (low || high)) ≡ (left && low || right && low || right && high || left && high)
four_corners true true true high = refl
four_corners true true false true = refl
four_corners true true false false = refl
four_corners true false true high = refl
four_corners true false false true = refl
four_corners true false false false = refl
four_corners false true true high = refl
four_corners false true false true = refl
four_corners false true false false = refl
four_corners false false low high = refl
