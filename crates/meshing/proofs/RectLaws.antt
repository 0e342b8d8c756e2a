-- The largest size, turn by turn, and what the rectilinear test answers. Assumes nothing.
use mathlib.Core.Path.{◌≡◌, ap, ◌∙◌}
use mathlib.Core.Bool.{Bool, false, not}
use mathlib.Core.List.{List}
use Prim.Native.Nat.{ℕ, ◌+◌, ◌<◌, ◌≤◌}
use lib.ListN.{length}
use lib.Ieee.{Float}
use borrow.Author.Tests.{le-leb, lt-leb}
use Rattle.lists.specs.Lists.{fold_below, all_below, next_of}
use Rattle.lists.proofs.Folds.{fold_more}
use Rattle.binary64.specs.Numbers.{◌⊗◌, at, abs, larger}
use Rattle.binary64.specs.Constants.{zero64, one64, tolerance9}
use Rattle.openrdson_core.specs.Points.{point_at}
use Rattle.meshing.specs.Rectilinear.{is_slanted, largest_size, slant_tolerance, is_rectilinear}

module _ (xs ys : List Float) where
  -- ---- the largest size: the invariant is `size ≡ size_of i`

  abbrev pub size_of : ℕ → Float
  size_of n = fold_below n (λ m i. larger (larger m (abs (at xs i))) (abs (at ys i))) zero64

  pub size_more : (i : ℕ) {most a b c d : Float} → most ≡ size_of i → a ≡ abs (at xs i) → b ≡ larger most a → c ≡ abs (at ys i) → d ≡ larger b c → d ≡ size_of (i + 1)
  size_more i e p q r s = fold_more (λ m i. larger (larger m (abs (at xs i))) (abs (at ys i))) zero64 i e (rw (← p, ← q, ← r) s)

  pub size_end : {i : ℕ} {most : Float} → most ≡ size_of i → i ≡ length xs → most ≡ largest_size xs ys
  unfolding largest_size
  size_end e h = e ∙ ap size_of h

  -- ---- the test

  abbrev pub is_straight : ℕ → Bool
  is_straight i = not (is_slanted (slant_tolerance xs ys) (point_at xs ys i) (point_at xs ys (next_of (length xs) i)))

  pub rect_few : length xs < 3 → false ≡ is_rectilinear xs ys
  unfolding is_rectilinear
  rect_few h = rw (lt-leb 3 (length xs) h)

  pub tolerance_is : {most larger1 : Float} → most ≡ largest_size xs ys → larger1 ≡ larger most one64 → tolerance9 ⊗ larger1 ≡ slant_tolerance xs ys
  tolerance_is e f = ap (λ (x : Float). tolerance9 ⊗ x) (f ∙ ap (λ (x : Float). larger x one64) e)

  pub rect_by : {all : Bool} → 3 ≤ length xs → all ≡ all_below (length xs) is_straight → all ≡ is_rectilinear xs ys
  unfolding is_rectilinear
  rect_by h e = e ∙ rw (le-leb 3 (length xs) h)
