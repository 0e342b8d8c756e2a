-- Partial sums of the shoelace rule, and the range of their points. Assumes nothing.
use mathlib.Core.Path.{◌≡◌, refl, sym, ap, ◌∙◌, subst}
use mathlib.Core.Bool.{Bool, true, false, ◌&&◌}
use mathlib.Core.List.{List}
use Prim.Native.Nat.{ℕ, zero, suc, ◌+◌, ◌-◌, ◌≤◌, ◌<◌}
use native.Mathlib.Nat.{add-zero}
use native.Mathlib.Omega.{arith}
use lib.ListN.{length}
use Rattle.lists.specs.Lists.{all_below}
use lib.Ieee.{Float, le}
use Rattle.lists.proofs.Scans.{both as scan_both}
use Rattle.binary64.specs.Numbers.{◌⊕◌, ◌⊗◌, at_most, at}
use Rattle.binary64.proofs.Order.{both}
use Rattle.binary64.proofs.NotNumbers.{sum_numbers, difference_numbers, product_numbers}
use Rattle.openrdson_core.specs.Points.{point_at, point_in, points_in}
use Rattle.openrdson_core.specs.Area.{cross, shoelace}
use Rattle.openrdson_core.specs.Sums.{Numbers}
use Rattle.openrdson_core.specs.declared.points.Point.{Point}
use Rattle.openrdson_core.proofs.Areas.{sum_step}

and_true : (b : Bool) → (b && true) ≡ b
and_true true = refl
and_true false = refl

and_assoc : (a b c : Bool) → ((a && b) && c) ≡ (a && (b && c))
and_assoc true b c = refl
and_assoc false b c = refl

-- ---- both coordinates are numbers
abbrev pub Whole : Point → Type 0
Whole p = (le p.x p.x ≡ true) × (le p.y p.y ≡ true)

-- a sum that is a number was one before an edge, and the edge's first point is of numbers
edge_whole : (s : Float) (p q : Point) → le (s ⊕ cross p q) (s ⊕ cross p q) ≡ true → (le s s ≡ true) × Whole p
edge_whole s p q h =
    let n = sum_numbers s (cross p q) h in
    let d = difference_numbers (p.x ⊗ q.y) (q.x ⊗ p.y) n.1 in
    (n.0, ((product_numbers p.x q.y d.0).0, (product_numbers q.x p.y d.1).1))

module _ (xs ys : List Float) where
  -- the sum over the first i points is a number
  abbrev Number : ℕ → Type 0
  Number i = le (shoelace xs ys i) (shoelace xs ys i) ≡ true

  step_whole : (i : ℕ) → Number (i + 1) → Number i × Whole (point_at xs ys i)
  step_whole i h = edge_whole (shoelace xs ys i) (point_at xs ys i) _ (ap (λ (z : Float). le z z) (sum_step xs ys i) ∙ h)

  -- so were the sums over fewer points, and these points are of numbers
  before : (i d : ℕ) → Number (i + d) → Number i
  before i zero h = subst Number (add-zero i) h
  before i (suc d) h = let e : i + suc d ≡ i + d + 1 = omega arith in before i d (step_whole (i + d) (subst Number e h)).0

  number_before : (i n : ℕ) → i ≤ n → Number n → Number i
  number_before i n l h = let e : n ≡ i + (n - i) = omega arith in before i (n - i) (subst Number e h)

  pub whole_before : (i n : ℕ) → i < n → Number n → Whole (point_at xs ys i)
  whole_before i n l h = (step_whole i (number_before (i + 1) n (omega arith) h)).1

  -- the coordinates of `count` points from place i on, by the sum after them
  pub numbers_of : (i count : ℕ) {s : Float} → s ≡ shoelace xs ys (i + count) → le s s ≡ true → Numbers xs i count × Numbers ys i count
  numbers_of i count e h =
      let n : Number (i + count) = sym (ap (λ (z : Float). le z z) e) ∙ h in
      (λ k m. (whole_before (i + k) (i + count) (omega arith) n).0, λ k m. (whole_before (i + k) (i + count) (omega arith) n).1)

-- ---- whether points are in range

module _ (test : ℕ → Bool) where
  -- the first n places, then `count` more
  all_joined : (n count : ℕ) → all_below (n + count) test ≡ (all_below n test && all_below count (λ k. test (n + k)))
  unfolding all_below
  all_joined n zero = ap (λ (k : ℕ). all_below k test) (add-zero n) ∙ sym (and_true (all_below n test))
  all_joined n (suc count) =
      let e : n + suc count ≡ suc (n + count) = omega arith in
      ap (λ (k : ℕ). all_below k test) e ∙ ap (λ (b : Bool). b && test (n + count)) (all_joined n count)
      ∙ and_assoc (all_below n test) (all_below count (λ k. test (n + k))) (test (n + count))

module _ (xs ys : List Float) where
  abbrev In : ℕ → Bool
  In k = point_in (point_at xs ys k)

  -- `count` more points are tested
  pub range_more : (i count : ℕ) {fine now : Bool} → fine ≡ all_below i (λ k. point_in (point_at xs ys k))
      → now ≡ (fine && all_below count (λ k. point_in (point_at xs ys (i + k)))) → now ≡ all_below (i + count) (λ k. point_in (point_at xs ys k))
  range_more i count f n = n ∙ ap (λ (b : Bool). b && all_below count (λ k. In (i + k))) f ∙ sym (all_joined In i count)

  -- points are in range if their x and their y are
  pub range_both : (i count : ℕ) → all_below count (λ k. at_most 20 (at xs (i + k))) ≡ true → all_below count (λ k. at_most 20 (at ys (i + k))) ≡ true
      → all_below count (λ k. point_in (point_at xs ys (i + k))) ≡ true
  unfolding all_below
  range_both i zero h g = refl
  range_both i (suc n) h g =
      let x = scan_both (all_below n (λ k. at_most 20 (at xs (i + k)))) (at_most 20 (at xs (i + n))) h in
      let y = scan_both (all_below n (λ k. at_most 20 (at ys (i + k)))) (at_most 20 (at ys (i + n))) g in
      both (all_below n (λ k. point_in (point_at xs ys (i + k)))) (In (i + n)) (range_both i n x.0 y.0) (both (at_most 20 (at xs (i + n))) (at_most 20 (at ys (i + n))) x.1 y.1)

  -- the points after the first i are tested
  pub range_rest : (i : ℕ) {now : Bool} → i ≤ length xs → true ≡ all_below i (λ k. point_in (point_at xs ys k))
      → now ≡ all_below (length xs - i) (λ k. point_in (point_at xs ys (i + k))) → now ≡ points_in xs ys
  range_rest i l f n = let e : i + (length xs - i) ≡ length xs = omega arith in range_more i (length xs - i) f n ∙ ap (λ (m : ℕ). all_below m In) e
