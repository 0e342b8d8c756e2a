-- On points in range every cross product of the ear rule is a number. So the Rust, which skips a vertex whose cross product is at most zero, skips exactly
-- those where it is not above zero. Assumes nothing.
use mathlib.Core.Path.{◌≡◌}
use mathlib.Core.Bool.{true, false, not}
use mathlib.Core.List.{List}
use Prim.Native.Nat.{ℕ, ◌<◌}
use native.Mathlib.Omega.{arith}
use lib.ListN.{length}
use lib.Ieee.{Float, is_nan, lt, le}
use Rattle.lists.proofs.Scans.{all_at}
use Rattle.binary64.specs.Constants.{zero64}
use Rattle.binary64.specs.Numbers.{◌⊖◌, ◌⊗◌, at_most}
use Rattle.binary64.proofs.Differences.{difference_in, product_in}
use Rattle.binary64.proofs.Order.{first, second}
use Rattle.binary64.proofs.Signs.{number, not_above}
use Rattle.openrdson_core.specs.Points.{point_at, point_in, points_in}
use Rattle.openrdson_core.specs.declared.points.Point.{Point}
use Rattle.meshing.specs.Ears.{turn, side}

-- ---- cross products: of coordinates of at most 2 ^ 20, differences are at most 2 ^ 21, their products 2 ^ 42, and the difference of two of these 2 ^ 43

crossed : (p q r s t u v w : Float) → at_most 20 p ≡ true → at_most 20 q ≡ true → at_most 20 r ≡ true → at_most 20 s ≡ true → at_most 20 t ≡ true → at_most 20 u ≡ true → at_most 20 v ≡ true → at_most 20 w ≡ true
    → at_most 43 ((p ⊖ q) ⊗ (r ⊖ s) ⊖ (t ⊖ u) ⊗ (v ⊖ w)) ≡ true
crossed p q r s t u v w hp hq hr hs ht hu hv hw =
    difference_in 42 ((p ⊖ q) ⊗ (r ⊖ s)) ((t ⊖ u) ⊗ (v ⊖ w)) (omega arith)
    (product_in 21 21 (p ⊖ q) (r ⊖ s) (omega arith) (difference_in 20 p q (omega arith) hp hq) (difference_in 20 r s (omega arith) hr hs))
    (product_in 21 21 (t ⊖ u) (v ⊖ w) (omega arith) (difference_in 20 t u (omega arith) ht hu) (difference_in 20 v w (omega arith) hv hw))

x_in : (p : Point) → point_in p ≡ true → at_most 20 p.x ≡ true
x_in p h = first (at_most 20 p.x) (at_most 20 p.y) h

y_in : (p : Point) → point_in p ≡ true → at_most 20 p.y ≡ true
y_in p h = second (at_most 20 p.x) (at_most 20 p.y) h

module _ (a b c : Point) (A : point_in a ≡ true) (B : point_in b ≡ true) (C : point_in c ≡ true) where
  turn_in : at_most 43 (turn a b c) ≡ true
  turn_in = crossed b.x a.x c.y a.y b.y a.y c.x a.x (x_in b B) (x_in a A) (y_in c C) (y_in a A) (y_in b B) (y_in a A) (x_in c C) (x_in a A)

  side_in : at_most 43 (side a b c) ≡ true
  side_in = crossed a.x c.x b.y c.y b.x c.x a.y c.y (x_in a A) (x_in c C) (y_in b B) (y_in c C) (x_in b B) (x_in c C) (y_in a A) (y_in c C)

  pub turn_number : is_nan (turn a b c) ≡ false
  turn_number = number 43 (turn a b c) turn_in

  pub side_number : is_nan (side a b c) ≡ false
  side_number = number 43 (side a b c) side_in

  -- a corner that does not turn left is one whose cross product is at most zero
  pub turn_skipped : le (turn a b c) zero64 ≡ not (lt zero64 (turn a b c))
  turn_skipped = not_above 43 (turn a b c) turn_in

-- the same at the vertices i, j and k of a ring in range
pub ring_skipped : (xs ys : List Float) → points_in xs ys ≡ true → (i j k : ℕ) → i < length xs → j < length xs → k < length xs
    → le (turn (point_at xs ys i) (point_at xs ys j) (point_at xs ys k)) zero64 ≡ not (lt zero64 (turn (point_at xs ys i) (point_at xs ys j) (point_at xs ys k)))
ring_skipped xs ys all i j k hi hj hk =
    let each = all_at (λ (n : ℕ). point_in (point_at xs ys n)) (length xs) all in
    turn_skipped (point_at xs ys i) (point_at xs ys j) (point_at xs ys k) (each i hi) (each j hj) (each k hk)
