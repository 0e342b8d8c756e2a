-- The bounds of points: the lowest and the highest of numbers, points that extend a box no more, and the range of points within bounds that are in range.
-- Assumes nothing.
use mathlib.Core.Path.{◌≡◌, refl, sym, ap, ◌∙◌, subst}
use mathlib.Core.Bool.{Bool, true, false, ◌&&◌, cond}
use mathlib.Core.List.{List}
use mathlib.Core.Logic.{◌⊎◌, ⊎_elim}
use Prim.Native.Nat.{ℕ, zero, suc, ◌+◌, ◌<◌, ◌≤◌}
use native.Mathlib.Nat.{add-zero, add-suc, eq-or-lt_of_le, le_of_suc-le-suc}
use native.Mathlib.Omega.{arith}
use lib.ListN.{length}
use lib.IntN.{pos}
use lib.Ieee.{Float, inf, fin, neg, lt, le}
use Rattle.lists.specs.Answer.{Answer, refused, given, unless}
use Rattle.lists.specs.Lists.{all_below, fold_below}
use Rattle.lists.proofs.Answers.{passed}
use Rattle.lists.proofs.Scans.{both as both_of, all_at, all_from}
use Rattle.binary64.specs.Numbers.{at, at_most}
use Rattle.binary64.proofs.Sizes.{at_most_is}
use Rattle.binary64.proofs.Order.{both, first, second, le_trans, le_not_lt, lt_le, not_lt_le, le_refl_left, le_refl_right, le_infinity, infinity_le}
use Rattle.binary64.proofs.Differences.{within_high, within_low, within_both}
use Rattle.openrdson_core.specs.Points.{point_at, point_in, points_in}
use Rattle.openrdson_core.specs.Bounds.{lesser, greater, extend_point, empty_bbox, bounds_of, FirstBounds}
use Rattle.openrdson_core.specs.declared.points.Point.{Point}
use Rattle.openrdson_core.specs.declared.bounds.Bbox.{Bbox}
use Rattle.openrdson_core.proofs.SumLaws.{range_more}

-- ---- the lower of two numbers, and the higher
lesser_first : (x m : Float) → le x x ≡ true → le m m ≡ true → le (lesser x m) x ≡ true
lesser_first x m p q = go (lt x m) refl
  where
    go : (b : Bool) → lt x m ≡ b → le (cond b x m) x ≡ true
    go true h = p
    go false h = not_lt_le x m p q h

lesser_second : (x m : Float) → le m m ≡ true → le (lesser x m) m ≡ true
lesser_second x m q = go (lt x m) refl
  where
    go : (b : Bool) → lt x m ≡ b → le (cond b x m) m ≡ true
    go true h = lt_le x m h
    go false h = q

greater_first : (x m : Float) → le x x ≡ true → le m m ≡ true → le x (greater x m) ≡ true
greater_first x m p q = go (lt m x) refl
  where
    go : (b : Bool) → lt m x ≡ b → le x (cond b x m) ≡ true
    go true h = p
    go false h = not_lt_le m x q p h

greater_second : (x m : Float) → le m m ≡ true → le m (greater x m) ≡ true
greater_second x m q = go (lt m x) refl
  where
    go : (b : Bool) → lt m x ≡ b → le m (cond b x m) ≡ true
    go true h = lt_le m x h
    go false h = q

-- what holds of both holds of the one that is taken
pub either : (P : Float → Type 0) (b : Bool) (x y : Float) → P x → P y → P (cond b x y)
either P true x y p q = p
either P false x y p q = q

-- ---- the lowest and the highest of numbers between lo and hi
upto : {i n : ℕ} → i < suc n → (i ≡ n) ⊎ (i < n)
upto h = eq-or-lt_of_le (le_of_suc-le-suc h)

module _ (f : ℕ → Float) (lo hi : Float) where
  abbrev pub lowest : ℕ → Float
  lowest n = fold_below n (λ m i. lesser (f i) m) (inf false)

  abbrev pub highest : ℕ → Float
  highest n = fold_below n (λ m i. greater (f i) m) (inf true)

  abbrev pub Between : ℕ → Type 0
  Between n = (i : ℕ) → i < n → (le lo (f i) ≡ true) × (le (f i) hi ≡ true)

  fewer : (n : ℕ) → Between (suc n) → Between n
  fewer n each i l = each i (omega arith)

  last : (n : ℕ) → Between (suc n) → (le lo (f n) ≡ true) × (le (f n) hi ≡ true)
  last n each = each n (omega arith)

  pub lowest_above : le lo lo ≡ true → (n : ℕ) → Between n → le lo (lowest n) ≡ true
  unfolding fold_below
  lowest_above L zero each = le_infinity lo L
  lowest_above L (suc n) each = either (λ z. le lo z ≡ true) (lt (f n) (lowest n)) (f n) (lowest n) (last n each).0 (lowest_above L n (fewer n each))

  pub highest_under : le hi hi ≡ true → (n : ℕ) → Between n → le (highest n) hi ≡ true
  unfolding fold_below
  highest_under H zero each = infinity_le hi H
  highest_under H (suc n) each = either (λ z. le z hi ≡ true) (lt (highest n) (f n)) (f n) (highest n) (last n each).1 (highest_under H n (fewer n each))

  pub lowest_under : le lo lo ≡ true → (n : ℕ) → Between n → (i : ℕ) → i < n → le (lowest n) (f i) ≡ true
  unfolding fold_below
  lowest_under L zero each i l = absurd (omega arith)
  lowest_under L (suc n) each i l =
      let m = le_refl_right lo (lowest n) (lowest_above L n (fewer n each)) in
      ⊎_elim
      (λ e. subst (λ (k : ℕ). le (lesser (f n) (lowest n)) (f k) ≡ true) (sym e) (lesser_first (f n) (lowest n) (le_refl_right lo (f n) (last n each).0) m))
      (λ k. le_trans (lesser (f n) (lowest n)) (lowest n) (f i) (lesser_second (f n) (lowest n) m) (lowest_under L n (fewer n each) i k))
      (upto l)

  pub highest_above : le hi hi ≡ true → (n : ℕ) → Between n → (i : ℕ) → i < n → le (f i) (highest n) ≡ true
  unfolding fold_below
  highest_above H zero each i l = absurd (omega arith)
  highest_above H (suc n) each i l =
      let m = le_refl_left (highest n) hi (highest_under H n (fewer n each)) in
      ⊎_elim
      (λ e. subst (λ (k : ℕ). le (f k) (greater (f n) (highest n)) ≡ true) (sym e) (greater_first (f n) (highest n) (le_refl_right lo (f n) (last n each).0) m))
      (λ k. le_trans (f i) (highest n) (greater (f n) (highest n)) (highest_above H n (fewer n each) i k) (greater_second (f n) (highest n) m))
      (upto l)

-- ---- the bounds of points, a side at a time
module _ (xs ys : List Float) where
  abbrev pub box : ℕ → Bbox
  box n = fold_below n (λ b i. extend_point b (point_at xs ys i)) empty_bbox

  pub min_x_is : (n : ℕ) → (box n).min_x ≡ fold_below n (λ m i. lesser (at xs i) m) (inf false)
  unfolding fold_below
  min_x_is zero = refl
  min_x_is (suc n) = ap (lesser (at xs n)) (min_x_is n)

  pub min_y_is : (n : ℕ) → (box n).min_y ≡ fold_below n (λ m i. lesser (at ys i) m) (inf false)
  unfolding fold_below
  min_y_is zero = refl
  min_y_is (suc n) = ap (lesser (at ys n)) (min_y_is n)

  pub max_x_is : (n : ℕ) → (box n).max_x ≡ fold_below n (λ m i. greater (at xs i) m) (inf true)
  unfolding fold_below
  max_x_is zero = refl
  max_x_is (suc n) = ap (greater (at xs n)) (max_x_is n)

  pub max_y_is : (n : ℕ) → (box n).max_y ≡ fold_below n (λ m i. greater (at ys i) m) (inf true)
  unfolding fold_below
  max_y_is zero = refl
  max_y_is (suc n) = ap (greater (at ys n)) (max_y_is n)

-- ---- a point within a box extends it no more
abbrev pub holds : Bbox → Point → Bool
holds b p = (le b.min_x p.x && le p.x b.max_x) && (le b.min_y p.y && le p.y b.max_y)

lesser_none : (x m : Float) → le m x ≡ true → lesser x m ≡ m
lesser_none x m h = ap (λ (b : Bool). cond b x m) (le_not_lt m x h)

greater_none : (x m : Float) → le x m ≡ true → greater x m ≡ m
greater_none x m h = ap (λ (b : Bool). cond b x m) (le_not_lt x m h)

record Held (b : Bbox) (p : Point) : Type 0 where
  pub left : le b.min_x p.x ≡ true
  pub right : le p.x b.max_x ≡ true
  pub low : le b.min_y p.y ≡ true
  pub high : le p.y b.max_y ≡ true

held : (b : Bbox) (p : Point) → holds b p ≡ true → Held b p
held b p h =
    let x = first (le b.min_x p.x && le p.x b.max_x) (le b.min_y p.y && le p.y b.max_y) h in
    let y = second (le b.min_x p.x && le p.x b.max_x) (le b.min_y p.y && le p.y b.max_y) h in record {
      left = first (le b.min_x p.x) (le p.x b.max_x) x;
      right = second (le b.min_x p.x) (le p.x b.max_x) x;
      low = first (le b.min_y p.y) (le p.y b.max_y) y;
      high = second (le b.min_y p.y) (le p.y b.max_y) y;
    }

extend_none : (b : Bbox) (p : Point) → holds b p ≡ true → extend_point b p ≡ b
extend_none b p h =
    let s = held b p h in
    rw (lesser_none p.x b.min_x s.left, lesser_none p.y b.min_y s.low, greater_none p.x b.max_x s.right, greater_none p.y b.max_y s.high) refl

-- ---- points within the bounds of the first k
module _ (xs ys : List Float) (k : ℕ) where
  -- they extend these bounds no more
  pub box_held : (d : ℕ) → all_below d (λ i. holds (box xs ys k) (point_at xs ys (k + i))) ≡ true → box xs ys (k + d) ≡ box xs ys k
  unfolding fold_below all_below
  box_held zero h = ap (box xs ys) (add-zero k)
  box_held (suc d) h =
      let parts = both_of (all_below d (λ i. holds (box xs ys k) (point_at xs ys (k + i)))) (holds (box xs ys k) (point_at xs ys (k + d))) h in
      ap (box xs ys) (add-suc k d)
      ∙ ap (λ (b : Bbox). extend_point b (point_at xs ys (k + d))) (box_held d parts.0)
      ∙ extend_none (box xs ys k) (point_at xs ys (k + d)) parts.1

  abbrev limit : Float
  limit = fin false 1 (pos 20)

  number_low : le (neg limit) (neg limit) ≡ true
  unfolding neg le
  number_low = refl

  number_high : le limit limit ≡ true
  unfolding le
  number_high = refl

  in_from : (x low high : Float) → le (neg limit) low ≡ true → le high limit ≡ true → le low x ≡ true → le x high ≡ true → at_most 20 x ≡ true
  in_from x low high a b c d = at_most_is 20 x ∙ within_both x limit (le_trans (neg limit) low x a c) (le_trans x high limit d b)

  sides : (x : Float) → at_most 20 x ≡ true → (le (neg limit) x ≡ true) × (le x limit ≡ true)
  sides x h = (within_low x limit (sym (at_most_is 20 x) ∙ h), within_high x limit (sym (at_most_is 20 x) ∙ h))

  -- and are in range if the first k are
  pub in_held : (d : ℕ) → all_below k (λ i. point_in (point_at xs ys i)) ≡ true → all_below d (λ i. holds (box xs ys k) (point_at xs ys (k + i))) ≡ true
      → all_below (k + d) (λ i. point_in (point_at xs ys i)) ≡ true
  in_held d c h =
      let in_k : (i : ℕ) → i < k → point_in (point_at xs ys i) ≡ true = all_at (λ i. point_in (point_at xs ys i)) k c in
      let x_between : Between (at xs) (neg limit) limit k = λ i g. sides (at xs i) (first (at_most 20 (at xs i)) (at_most 20 (at ys i)) (in_k i g)) in
      let y_between : Between (at ys) (neg limit) limit k = λ i g. sides (at ys i) (second (at_most 20 (at xs i)) (at_most 20 (at ys i)) (in_k i g)) in
      let left = ap (le (neg limit)) (min_x_is xs ys k) ∙ lowest_above (at xs) (neg limit) limit number_low k x_between in
      let right = ap (λ (z : Float). le z limit) (max_x_is xs ys k) ∙ highest_under (at xs) (neg limit) limit number_high k x_between in
      let low = ap (le (neg limit)) (min_y_is xs ys k) ∙ lowest_above (at ys) (neg limit) limit number_low k y_between in
      let high = ap (λ (z : Float). le z limit) (max_y_is xs ys k) ∙ highest_under (at ys) (neg limit) limit number_high k y_between in
      let each : all_below d (λ i. point_in (point_at xs ys (k + i))) ≡ true =
      all_from (λ i. point_in (point_at xs ys (k + i))) d
      (λ i g.
      let s = held (box xs ys k) (point_at xs ys (k + i)) (all_at (λ i. holds (box xs ys k) (point_at xs ys (k + i))) d h i g) in
      both (at_most 20 (at xs (k + i))) (at_most 20 (at ys (k + i)))
      (in_from (at xs (k + i)) (box xs ys k).min_x (box xs ys k).max_x left right s.left s.right)
      (in_from (at ys (k + i)) (box xs ys k).min_y (box xs ys k).max_y low high s.low s.high))
      in
      sym (range_more xs ys k d (sym c) (sym each))

-- ---- what the first k points tell of all
abbrev value : Answer Bbox → Bbox
value (refused n) = empty_bbox
value (given b) = b

abbrev Given : Answer Bbox → Type 0
Given (refused n) = ⊥
Given (given b) = Unit {0}

module _ (xs ys : List Float) (k : ℕ) (some : k ≤ length xs) where
  abbrev first_in : Bool
  first_in = all_below k (λ i. point_in (point_at xs ys i))

  fewer_in : (b : Bool) → points_in xs ys ≡ b → first_in ≡ false → b ≡ false
  fewer_in true p h = sym (all_from (λ i. point_in (point_at xs ys i)) k (λ i l. all_at (λ i. point_in (point_at xs ys i)) (length xs) p i (omega arith))) ∙ h
  fewer_in false p h = refl

  -- they are refused
  pub first_refused : {n : ℕ} {a : Answer Bbox} → unless first_in 1 (given (box xs ys k)) ≡ refused n → a ≡ refused n → a ≡ unless (points_in xs ys) 1 (given (bounds_of xs ys))
  first_refused {n} {a} e f = go first_in refl e
    where
      go : (b : Bool) → first_in ≡ b → unless b 1 (given (box xs ys k)) ≡ refused n → a ≡ unless (points_in xs ys) 1 (given (bounds_of xs ys))
      go true h g = absurd (subst Given g tt)
      go false h g = f ∙ sym g ∙ ap (λ (b : Bool). unless b 1 (given (bounds_of xs ys))) (sym (fewer_in (points_in xs ys) refl h))

-- ---- the bounds of the first points
module _ (xs ys : List Float) where
  -- of none
  pub none_first : {b : Bbox} → b ≡ empty_bbox → FirstBounds xs ys 0 b
  unfolding fold_below all_below
  none_first e = record {
    total = e;
    in_range = refl;
  }

  -- of those that a call has answered
  pub given_first : (k : ℕ) {b : Bbox} → unless (all_below k (λ i. point_in (point_at xs ys i))) 1 (given (box xs ys k)) ≡ given b → FirstBounds xs ys k b
  given_first k e =
      let p = passed (all_below k (λ i. point_in (point_at xs ys i))) 1 (given (box xs ys k)) e in record {
        total = sym (ap value p.1);
        in_range = p.0;
      }

  -- and of d more, which lie within them
  pub held_first : (k d : ℕ) {b : Bbox} → FirstBounds xs ys k b → all_below d (λ i. holds b (point_at xs ys (k + i))) ≡ true → FirstBounds xs ys (k + d) b
  held_first k d {b} f h =
      let inside : all_below d (λ i. holds (box xs ys k) (point_at xs ys (k + i))) ≡ true = subst (λ (b : Bbox). all_below d (λ i. holds b (point_at xs ys (k + i))) ≡ true) f.total h in record {
        total = f.total ∙ sym (box_held xs ys k d inside);
        in_range = in_held xs ys k d f.in_range inside;
      }
