-- Two shapes, worked out by the definitions. Assumes nothing.
use mathlib.Core.Path.{◌≡◌, refl}
use mathlib.Core.Bool.{true, false}
use mathlib.Core.List.{[], ◌∷◌}
use lib.IntN.{pos, negsuc}
use lib.Ieee.{Float, fin, add, sub, mul, div, lt, eq, le, of_bits, round}
use Rattle.lists.specs.Answer.{given}
use Rattle.lists.specs.Lists.{fold_below, all_below, any_below}
use Rattle.binary64.specs.Numbers.{at_most, abs}
use Rattle.openrdson_core.specs.Points.{ring_fault, of_ring}
use Rattle.openrdson_core.specs.Area.{shoelace, signed_area}
use Rattle.openrdson_core.specs.Bounds.{bounds_of}
use Rattle.openrdson_core.specs.Rectangle.{on_corner, on_some_corner, fills_corners, fills_bounds, is_rectangle}

abbrev zero : Float
zero = fin false 0 (pos 0)

abbrev one : Float
one = fin false 1 (pos 0)

-- the bow-tie (0,0), (1,1), (1,0), (0,1) is a rectangle
pub bow_tie_lem : let xs = zero ∷ one ∷ one ∷ zero ∷ [] in let ys = zero ∷ one ∷ zero ∷ one ∷ [] in of_ring xs ys (is_rectangle xs ys) ≡ given true
unfolding ring_fault fills_bounds fills_corners on_some_corner on_corner bounds_of fold_below all_below any_below at_most abs sub mul lt eq le round of_bits
bow_tie_lem = refl

-- (0,0), (0,1), (1,0) has the area -0.5
pub turned_triangle : let xs = zero ∷ zero ∷ one ∷ [] in let ys = zero ∷ one ∷ zero ∷ [] in of_ring xs ys (signed_area xs ys) ≡ given (fin true 1 (negsuc 0))
unfolding ring_fault signed_area shoelace fold_below all_below at_most add sub mul div round of_bits
turned_triangle = refl
