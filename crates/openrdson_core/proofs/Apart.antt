-- A ring with three x, or three y, farther from each other than any tolerance is no rectangle: the middle one is at no side of the bounds. Assumes nothing.
use mathlib.Core.Path.{◌≡◌, refl, sym, ap, ◌∙◌, subst}
use mathlib.Core.Bool.{Bool, true, false, not, ◌&&◌, ◌||◌, cond}
use mathlib.Core.List.{List}
use Prim.Native.Nat.{ℕ, ◌<◌, ◌≤◌}
use native.Mathlib.Omega.{arith}
use lib.ListN.{length}
use lib.IntN.{pos}
use lib.Ieee.{Float, inf, fin, binary64, of_bits, neg, lt, le}
use Rattle.lists.specs.Lists.{fold_below}
use Rattle.lists.proofs.Scans.{and_false, all_at, all_fails, all_from}
use Rattle.binary64.specs.Numbers.{◌⊕◌, ◌⊖◌, ◌⊗◌, at, at_most, abs, larger}
use Rattle.binary64.specs.Constants.{zero64, tolerance9}
use Rattle.binary64.proofs.Sizes.{at_most_is}
use Rattle.binary64.proofs.Order.{never, both, first, second, le_trans, not_le_lt, le_total, le_refl_left, le_refl_right}
use Rattle.binary64.proofs.Differences.{Limit, coordinate_limit, within_above, within_under, difference_above, difference_below, farther_below, farther_above, abs_swap, difference_most, within_high, within_low, within_both, product_mono, tolerance_above}
use Rattle.openrdson_core.specs.Points.{point_at, point_in, points_in}
use Rattle.openrdson_core.specs.Bounds.{lesser, greater, is_empty, width, height, bounds_of}
use Rattle.openrdson_core.specs.Rectangle.{on_corner, on_some_corner, all_corners_taken, fills_corners, fills_bounds, is_rectangle}
use Rattle.openrdson_core.specs.Apart.{points_within, are_apart, tolerance_within, three_apart}
use Rattle.openrdson_core.specs.declared.points.Point.{Point}
use Rattle.openrdson_core.specs.declared.bounds.Bbox.{Bbox}
use Rattle.openrdson_core.proofs.Rings.{range_is}
use Rattle.openrdson_core.proofs.BoundLaws.{either, lowest_under, lowest_above, highest_under, highest_above, min_x_is, min_y_is, max_x_is, max_y_is}
use Rattle.openrdson_core.proofs.Corners.{four_corners}

-- ---- numbers f 0, f 1, .. of at most the size l, between two of them that bound them
pub record Side (l : Float) (f : ℕ → Float) (n : ℕ) (low high : Float) : Type 0 where
  pub within : (i : ℕ) → i < n → le (abs (f i)) l ≡ true
  pub low_within : le (abs low) l ≡ true
  pub high_within : le (abs high) l ≡ true
  pub low_under : (i : ℕ) → i < n → le low (f i) ≡ true
  pub high_above : (i : ℕ) → i < n → le (f i) high ≡ true

side : (l : Float) (f : ℕ → Float) (n : ℕ) → 0 < n → ((i : ℕ) → i < n → le (abs (f i)) l ≡ true)
    → Side l f n (fold_below n (λ m i. lesser (f i) m) (inf false)) (fold_below n (λ m i. greater (f i) m) (inf true))
side l f n N each =
    let low = fold_below n (λ m i. lesser (f i) m) (inf false) in
    let high = fold_below n (λ m i. greater (f i) m) (inf true) in
    let between : (i : ℕ) → i < n → (le (neg l) (f i) ≡ true) × (le (f i) l ≡ true) = λ i h. (within_low (f i) l (each i h), within_high (f i) l (each i h)) in
    let L = le_refl_left (neg l) (f 0) (between 0 N).0 in
    let H = le_refl_right (f 0) l (between 0 N).1 in
    let under = lowest_under f (neg l) l L n between in
    let above = highest_above f (neg l) l H n between in record {
      within = each;
      low_within = within_both low l (lowest_above f (neg l) l L n between) (le_trans low (f 0) l (under 0 N) (between 0 N).1);
      high_within = within_both high l (le_trans (neg l) (f 0) high (between 0 N).0 (above 0 N)) (highest_under f (neg l) l H n between);
      low_under = under;
      high_above = above;
    }

-- ---- of three of them that are farther than t from each other, one is farther than eps from both bounds, where eps is at most t
pub record Off (f : ℕ → Float) (n : ℕ) (low high eps : Float) : Type 0 where
  pub place : ℕ
  pub inside : place < n
  pub off_low : le (abs (f place ⊖ low)) eps ≡ false
  pub off_high : le (abs (f place ⊖ high)) eps ≡ false

-- a is more than t, b at least a: so b is more than e, which is at most t
past : (a b e t : Float) → le a t ≡ false → le a b ≡ true → le e t ≡ true → le b e ≡ false
past a b e t h g k = go (le b e) refl
  where
    go : (c : Bool) → le b e ≡ c → c ≡ false
    go true q = sym (le_trans a e t (le_trans a b e g q) k) ∙ h
    go false q = refl

pub in_range : (l x : Float) → Limit l → le (abs x) l ≡ true → at_most 20 x ≡ true
in_range l x L h = at_most_is 20 x ∙ le_trans (abs x) l (fin false 1 (pos 20)) h L.small

module _ (l : Float) (L : Limit l) (f : ℕ → Float) (n : ℕ) (low high eps t : Float) (s : Side l f n low high) (under : le eps t ≡ true) where
  reach : (i : ℕ) → i < n → at_most 20 (f i) ≡ true
  reach i h = in_range l (f i) L (s.within i h)

  -- the middle one
  middle : (i j k : ℕ) → i < n → j < n → k < n → le (f i) (f j) ≡ true → le (f j) (f k) ≡ true → le (abs (f j ⊖ f i)) t ≡ false → le (abs (f j ⊖ f k)) t ≡ false → Off f n low high eps
  middle i j k I J K a b p q = record {
    place = j;
    inside = J;
    off_low = past (abs (f j ⊖ f i)) (abs (f j ⊖ low)) eps t p (farther_below 20 low (f i) (f j) (in_range l low L s.low_within) (reach i I) (reach j J) (s.low_under i I) a) under;
    off_high = past (abs (f j ⊖ f k)) (abs (f j ⊖ high)) eps t q (farther_above 20 high (f k) (f j) (in_range l high L s.high_within) (reach k K) (reach j J) (s.high_above k K) b) under;
  }

  other_way : (i j : ℕ) → i < n → j < n → le (abs (f i ⊖ f j)) t ≡ false → le (abs (f j ⊖ f i)) t ≡ false
  other_way i j I J h = ap (λ (z : Float). le z t) (abs_swap 20 (f j) (f i) (reach j J) (reach i I)) ∙ h

  number : (i : ℕ) → i < n → le (f i) (f i) ≡ true
  number i I = le_refl_left (f i) high (s.high_above i I)

  turned : (i j : ℕ) → i < n → j < n → le (f i) (f j) ≡ false → le (f j) (f i) ≡ true
  turned i j I J h = le_total (f i) (f j) (number i I) (number j J) h

  three : (i j k : ℕ) → i < n → j < n → k < n → le (abs (f i ⊖ f j)) t ≡ false → le (abs (f j ⊖ f k)) t ≡ false → le (abs (f i ⊖ f k)) t ≡ false → Off f n low high eps
  three i j k I J K p q r = go (le (f i) (f j)) (le (f j) (f k)) (le (f i) (f k)) refl refl refl
    where
      go : (a b c : Bool) → le (f i) (f j) ≡ a → le (f j) (f k) ≡ b → le (f i) (f k) ≡ c → Off f n low high eps
      go true true c x y z = middle i j k I J K x y (other_way i j I J p) q
      go true false true x y z = middle i k j I K J z (turned j k J K y) (other_way i k I K r) (other_way j k J K q)
      go true false false x y z = middle k i j K I J (turned i k I K z) x r p
      go false true true x y z = middle j i k J I K (turned i j I J x) z p r
      go false true false x y z = middle j k i J K I y (turned i k I K z) (other_way j k J K q) (other_way i k I K r)
      go false false c x y z = middle k j i K J I (turned j k J K y) (turned i j I J x) q (other_way i j I J p)

-- ---- the tolerance of points within l is at most that of the limit
most_or_zero : (l : Float) → Limit l → (e : Bool) (d : Float) → le (abs d) (l ⊕ l) ≡ true → le (cond e zero64 d) (l ⊕ l) ≡ true
most_or_zero l L true d h = L.zero_below
most_or_zero l L false d h = within_high d (l ⊕ l) h

tolerance_most : (l w h : Float) → Limit l → le w (l ⊕ l) ≡ true → le h (l ⊕ l) ≡ true → le w zero64 ≡ false → le h zero64 ≡ false → le (tolerance9 ⊗ larger w h) (tolerance_within l) ≡ true
tolerance_most l w h L W H p q =
    product_mono tolerance9 (larger w h) (l ⊕ l) tolerance_above L.twice_above (either (λ z. lt zero64 z ≡ true) (lt w h) h w (above h H q) (above w W p))
    (either (λ z. le z (l ⊕ l) ≡ true) (lt w h) h w H W)
  where
    above : (z : Float) → le z (l ⊕ l) ≡ true → le z zero64 ≡ false → lt zero64 z ≡ true
    above z m n = not_le_lt z zero64 (le_refl_left z (l ⊕ l) m) (le_refl_left zero64 (l ⊕ l) L.zero_below) n

-- ---- a point off both sides in x, or in y, is on no corner
off_in_x : (left right low high : Bool) → left ≡ false → right ≡ false → (left && low || right && low || right && high || left && high) ≡ false
off_in_x left right low high p q = rw (p, q)

off_in_y : (left right low high : Bool) → low ≡ false → high ≡ false → (left && low || right && low || right && high || left && high) ≡ false
off_in_y left right low high p q = sym (four_corners left right low high) ∙ rw (p, q) (and_false (left || right))

parts : (x y z : Bool) → (not x && not y && not z) ≡ true → (x ≡ false) × (y ≡ false) × (z ≡ false)
parts false false false e = (refl, refl, refl)
parts true y z e = never e
parts false true z e = never e
parts false false true e = never e

-- ---- the ring
module _ (l : Float) (L : Limit l) (xs ys : List Float) (some : 0 < length xs) (all : points_within l xs ys ≡ true) where
  within_x : (i : ℕ) → i < length xs → le (abs (at xs i)) l ≡ true
  within_x i h = first (le (abs (at xs i)) l) (le (abs (at ys i)) l) (all_at (λ i. le (abs (at xs i)) l && le (abs (at ys i)) l) (length xs) all i h)

  within_y : (i : ℕ) → i < length xs → le (abs (at ys i)) l ≡ true
  within_y i h = second (le (abs (at xs i)) l) (le (abs (at ys i)) l) (all_at (λ i. le (abs (at xs i)) l && le (abs (at ys i)) l) (length xs) all i h)

  pub side_x : Side l (at xs) (length xs) (bounds_of xs ys).min_x (bounds_of xs ys).max_x
  unfolding bounds_of
  side_x = rw (min_x_is xs ys (length xs), max_x_is xs ys (length xs)) (side l (at xs) (length xs) some within_x)

  pub side_y : Side l (at ys) (length xs) (bounds_of xs ys).min_y (bounds_of xs ys).max_y
  unfolding bounds_of
  side_y = rw (min_y_is xs ys (length xs), max_y_is xs ys (length xs)) (side l (at ys) (length xs) some within_y)

module _ (l : Float) (L : Limit l) (xs ys : List Float) (some : 4 ≤ length xs) (all : points_within l xs ys ≡ true) where
  abbrev b : Bbox
  b = bounds_of xs ys

  abbrev any : 0 < length xs
  any = omega arith

  x_side : Side l (at xs) (length xs) b.min_x b.max_x
  x_side = side_x l L xs ys any all

  y_side : Side l (at ys) (length xs) b.min_y b.max_y
  y_side = side_y l L xs ys any all

  width_most : le (width b) (l ⊕ l) ≡ true
  width_most = most_or_zero l L (is_empty b) (b.max_x ⊖ b.min_x) (difference_most l b.max_x b.min_x L.above x_side.high_within x_side.low_within)

  height_most : le (height b) (l ⊕ l) ≡ true
  height_most = most_or_zero l L (is_empty b) (b.max_y ⊖ b.min_y) (difference_most l b.max_y b.min_y L.above y_side.high_within y_side.low_within)

  module _ (eps : Float) where
    by_x : Off (at xs) (length xs) b.min_x b.max_x eps → fills_corners xs ys b eps ≡ false
    unfolding fills_corners on_some_corner on_corner
    by_x o =
        let p = point_at xs ys o.place in
        ap (λ (z : Bool). z && all_corners_taken xs ys b eps)
        (all_fails (λ i. on_some_corner b eps (point_at xs ys i)) (length xs) o.place o.inside
        (off_in_x (le (abs (p.x ⊖ b.min_x)) eps) (le (abs (p.x ⊖ b.max_x)) eps) (le (abs (p.y ⊖ b.min_y)) eps) (le (abs (p.y ⊖ b.max_y)) eps) o.off_low o.off_high))

    by_y : Off (at ys) (length xs) b.min_y b.max_y eps → fills_corners xs ys b eps ≡ false
    unfolding fills_corners on_some_corner on_corner
    by_y o =
        let p = point_at xs ys o.place in
        ap (λ (z : Bool). z && all_corners_taken xs ys b eps)
        (all_fails (λ i. on_some_corner b eps (point_at xs ys i)) (length xs) o.place o.inside
        (off_in_y (le (abs (p.x ⊖ b.min_x)) eps) (le (abs (p.x ⊖ b.max_x)) eps) (le (abs (p.y ⊖ b.min_y)) eps) (le (abs (p.y ⊖ b.max_y)) eps) o.off_low o.off_high))

    off : (f : ℕ → Float) (low high : Float) → Side l f (length xs) low high → le eps (tolerance_within l) ≡ true → are_apart (tolerance_within l) (f 0) (f 2) (f 3) ≡ true → Off f (length xs) low high eps
    off f low high s under e =
        let t = tolerance_within l in
        let q = parts (le (abs (f 0 ⊖ f 2)) t) (le (abs (f 2 ⊖ f 3)) t) (le (abs (f 0 ⊖ f 3)) t) e in
        three l L f (length xs) low high eps t s under 0 2 3 (omega arith) (omega arith) (omega arith) q.0 q.1 q.2

    no_corners : le eps (tolerance_within l) ≡ true → three_apart (tolerance_within l) xs ys ≡ true → fills_corners xs ys b eps ≡ false
    no_corners under h = go (are_apart (tolerance_within l) (at xs 0) (at xs 2) (at xs 3)) (are_apart (tolerance_within l) (at ys 0) (at ys 2) (at ys 3)) refl refl h
      where
        go : (p q : Bool) → are_apart (tolerance_within l) (at xs 0) (at xs 2) (at xs 3) ≡ p → are_apart (tolerance_within l) (at ys 0) (at ys 2) (at ys 3) ≡ q → (p || q) ≡ true → fills_corners xs ys b eps ≡ false
        go true q x y e = by_x (off (at xs) b.min_x b.max_x x_side under x)
        go false true x y e = by_y (off (at ys) b.min_y b.max_y y_side under y)
        go false false x y e = never e

  no_rectangle : three_apart (tolerance_within l) xs ys ≡ true → is_rectangle xs ys ≡ false
  unfolding fills_bounds
  no_rectangle h = go (le (width b) zero64) (le (height b) zero64) refl refl
    where
      go : (p q : Bool) → le (width b) zero64 ≡ p → le (height b) zero64 ≡ q → cond (p || q) false (fills_corners xs ys b (tolerance9 ⊗ larger (width b) (height b))) ≡ false
      go true q x y = refl
      go false true x y = refl
      go false false x y = no_corners (tolerance9 ⊗ larger (width b) (height b)) (tolerance_most l (width b) (height b) L width_most height_most x y) h

  points_in_lem : points_in xs ys ≡ true
  points_in_lem = all_from (λ i. point_in (point_at xs ys i)) (length xs) (λ i h. both (at_most 20 (at xs i)) (at_most 20 (at ys i)) (in_range l (at xs i) L (within_x l L xs ys any all i h)) (in_range l (at ys i) L (within_y l L xs ys any all i h)))

-- what `is_off_corners` says of a limit
pub shown : (l : Float) → Limit l → (xs ys : List Float) → 4 ≤ length xs → (three_apart (tolerance_within l) xs ys && points_within l xs ys) ≡ true → (points_in xs ys ≡ true) × (is_rectangle xs ys ≡ false)
shown l L xs ys some h =
    let three = first (three_apart (tolerance_within l) xs ys) (points_within l xs ys) h in
    let all = second (three_apart (tolerance_within l) xs ys) (points_within l xs ys) h in
    (points_in_lem l L xs ys some all, no_rectangle l L xs ys some all three)

-- ---- a point of a ring lies between the bounds, so that one comparison a side tells whether it is on a corner
abbrev pub near_corner : Bbox → Float → Point → Bool
near_corner b eps p = (le (p.x ⊖ b.min_x) eps || le (neg eps) (p.x ⊖ b.max_x)) && (le (p.y ⊖ b.min_y) eps || le (neg eps) (p.y ⊖ b.max_y))

module _ (l : Float) (L : Limit l) (f : ℕ → Float) (n : ℕ) (low high eps : Float) (s : Side l f n low high) (i : ℕ) (h : i < n) where
  near_low : le (abs (f i ⊖ low)) eps ≡ le (f i ⊖ low) eps
  near_low = within_above (f i ⊖ low) eps (difference_above 20 (f i) low (in_range l (f i) L (s.within i h)) (in_range l low L s.low_within) (s.low_under i h))

  near_high : le (abs (f i ⊖ high)) eps ≡ le (neg eps) (f i ⊖ high)
  near_high = within_under (f i ⊖ high) eps (difference_below 20 (f i) high (in_range l (f i) L (s.within i h)) (in_range l high L s.high_within) (s.high_above i h))

near_is : (xs ys : List Float) → points_in xs ys ≡ true → (eps : Float) (i : ℕ) → i < length xs → near_corner (bounds_of xs ys) eps (point_at xs ys i) ≡ on_some_corner (bounds_of xs ys) eps (point_at xs ys i)
unfolding on_some_corner on_corner
near_is xs ys fine eps i h =
    let l = of_bits binary64 0x4130_0000_0000_0000 in
    let all = range_is xs ys ∙ fine in
    let b = bounds_of xs ys in
    let some : 0 < length xs = omega arith in
    let sx = side_x l coordinate_limit xs ys some all in
    let sy = side_y l coordinate_limit xs ys some all in
    let left = near_low l coordinate_limit (at xs) (length xs) b.min_x b.max_x eps sx i h in
    let right = near_high l coordinate_limit (at xs) (length xs) b.min_x b.max_x eps sx i h in
    let low = near_low l coordinate_limit (at ys) (length xs) b.min_y b.max_y eps sy i h in
    let high = near_high l coordinate_limit (at ys) (length xs) b.min_y b.max_y eps sy i h in
    ap (λ (z : Bool). (z || le (neg eps) (at xs i ⊖ b.max_x)) && (le (at ys i ⊖ b.min_y) eps || le (neg eps) (at ys i ⊖ b.max_y))) (sym left)
    ∙ ap (λ (z : Bool). (le (abs (at xs i ⊖ b.min_x)) eps || z) && (le (at ys i ⊖ b.min_y) eps || le (neg eps) (at ys i ⊖ b.max_y))) (sym right)
    ∙ ap (λ (z : Bool). (le (abs (at xs i ⊖ b.min_x)) eps || le (abs (at xs i ⊖ b.max_x)) eps) && (z || le (neg eps) (at ys i ⊖ b.max_y))) (sym low)
    ∙ ap (λ (z : Bool). (le (abs (at xs i ⊖ b.min_x)) eps || le (abs (at xs i ⊖ b.max_x)) eps) && (le (abs (at ys i ⊖ b.min_y)) eps || z)) (sym high)
    ∙ four_corners (le (abs (at xs i ⊖ b.min_x)) eps) (le (abs (at xs i ⊖ b.max_x)) eps) (le (abs (at ys i ⊖ b.min_y)) eps) (le (abs (at ys i ⊖ b.max_y)) eps)

-- the same of what has been found to be the bounds
pub near_at : (xs ys : List Float) (b : Bbox) → points_in xs ys ≡ true → b ≡ bounds_of xs ys → (eps : Float) (i : ℕ) → i < length xs → near_corner b eps (point_at xs ys i) ≡ on_some_corner b eps (point_at xs ys i)
near_at xs ys b fine is eps i h = subst (λ (z : Bbox). near_corner z eps (point_at xs ys i) ≡ on_some_corner z eps (point_at xs ys i)) (sym is) (near_is xs ys fine eps i h)
