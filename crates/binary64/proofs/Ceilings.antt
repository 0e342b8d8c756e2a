-- Laws of `ceil_capped`: by a comparison, and from the number cut to a whole one. Assumes nothing.
use Rattle.std.proofs.Common.{◌≡◌, ℕ, suc, ◌+◌, ◌-◌, ◌*◌, ◌/◌, ◌^◌, ◌<◌, ◌≤◌, min, true, false, T, ltb, pos, sym, refl, ap, ◌∙◌, subst, le_antisymm, one-mul, le-div_iff_mul-le, div-mul-le_self, arith, ltb→lt, lt→ltb, pow_pos, pow_mono, ltb-false, ltb-true, le-ltb, lt-ltb, le_of_lt, zero-le, ℤ}
use native.Mathlib.Nat.{div-eq_of_lt-le, lt-div-mul-add}
use lib.Ieee.{Float, nan, inf, fin, binary64, up, down, lt, of_int, to_unsigned, round, fits}
use lib.Ieee.Fits.{down_pos}
use lib.Ieee.Exact.{HasValue}
use lib.Ieee.Back.{round_whole}
use Rattle.binary64.specs.Rounding.{quotient_up, ceil_capped}
use Rattle.binary64.proofs.Values.{same_test, lt_values, uncapped, digits, no_fraction}

-- ---- n / d rounded up
pub up_above : (k n d : ℕ) → 0 < d → k * d < n → k < quotient_up n d
up_above k n d D h = (le-div_iff_mul-le D).1 (more k n d D h)
  where
    more : (k n d : ℕ) → 0 < d → k * d < n → suc k * d ≤ n + (d - 1)
    more k n d D h = omega arith

pub above_up : (k n d : ℕ) → 0 < d → k < quotient_up n d → k * d < n
above_up k n d D h = less k n d D ((le-div_iff_mul-le D).0 h)
  where
    less : (k n d : ℕ) → 0 < d → suc k * d ≤ n + (d - 1) → k * d < n
    less k n d D h = omega arith

up_more : (t n d : ℕ) → 0 < d → t * d < n → n < t * d + d → quotient_up n d ≡ t + 1
up_more t n d D h k = div-eq_of_lt-le d (omega arith) (omega arith)

up_same : (t n d : ℕ) → 0 < d → t * d ≡ n → quotient_up n d ≡ t
up_same t n d D h = div-eq_of_lt-le d (omega arith) (omega arith)

-- ---- rounded up above a whole number: one comparison with it
pub ceil_above : (n : ℕ) (y x : Float) → n < 2 ^ 64 - 1 → HasValue y false n 1 → ltb n (ceil_capped x) ≡ lt y x
unfolding ceil_capped lt
ceil_above n nan x N v = absurd v
ceil_above n (inf u) x N v = absurd v
ceil_above n (fin u k g) nan N v = le-ltb n 0 (omega arith)
ceil_above n (fin u k g) (inf true) N v = le-ltb n 0 (omega arith)
ceil_above n (fin u k g) (inf false) N v = lt-ltb n (2 ^ 64 - 1) N
ceil_above n (fin u k g) (fin true m e) N v = le-ltb n 0 (omega arith) ∙ sym (lt_values (fin u k g) (fin true m e) false true n 1 (m * up e) (down e) (pow_pos 0) (down_pos e) v (refl, refl))
ceil_above n (fin u k g) (fin false m e) N v =
    let a = m * up e in
    let d = down e in
    same_test (ltb n (min (quotient_up a d) (2 ^ 64 - 1))) (ltb (n * d) (a * 1))
    (λ t. lt→ltb (n * d) (a * 1) (whole (n * d) a (above_up n a d (down_pos e) (below_both n (quotient_up a d) (ltb→lt n (min (quotient_up a d) (2 ^ 64 - 1)) t)))))
    (λ t. lt→ltb n (min (quotient_up a d) (2 ^ 64 - 1)) (capped n (quotient_up a d) N (up_above n a d (down_pos e) (part (n * d) a (ltb→lt (n * d) (a * 1) t)))))
    ∙ sym (lt_values (fin u k g) (fin false m e) false false n 1 a d (pow_pos 0) (down_pos e) v (refl, refl))
  where
    below_both : (n q : ℕ) → n < min q (2 ^ 64 - 1) → n < q
    below_both n q h = omega arith

    capped : (n q : ℕ) → n < 2 ^ 64 - 1 → n < q → n < min q (2 ^ 64 - 1)
    capped n q N h = omega arith

    whole : (p a : ℕ) → p < a → p < a * 1
    whole p a h = omega arith

    part : (p a : ℕ) → p < a * 1 → p < a
    part p a h = omega arith

-- a power of two
pub ceil_capped_above : (k : ℕ) → k ≤ 63 → (x : Float) → ltb (2 ^ k) (ceil_capped x) ≡ lt (fin false 1 (pos k)) x
ceil_capped_above k h x = ceil_above (2 ^ k) (fin false 1 (pos k)) x (few (2 ^ k) (pow_mono h)) (refl, ap (λ (z : ℕ). z * 1) (one-mul (2 ^ k)))
  where
    few : (p : ℕ) → p ≤ 2 ^ 63 → p < 2 ^ 64 - 1
    few p h = omega arith

-- a whole number as the program casts it
pub ceil_capped_above_int : (n : ℕ) → n ≤ 2 ^ 53 → (x : Float) → ltb n (ceil_capped x) ≡ lt (of_int binary64 (pos n)) x
unfolding of_int
ceil_capped_above_int n h x = ceil_above n (round binary64 false n 1) x (omega arith) (round_whole binary64 false n h)

-- ---- by t, the number cut to a whole one and capped to u64, and whether that is below the number
-- a number above zero: t is n / d cut, while that is below the cap
module _ (n d t : ℕ) (D : 0 < d) (is : min (n / d) (2 ^ 64 - 1) ≡ t) where
  part : t < 2 ^ 53 → n / d ≡ t
  part h = go (n / d) t is h
    where
      go : (q t : ℕ) → min q (2 ^ 64 - 1) ≡ t → t < 2 ^ 53 → q ≡ t
      go q t e h = omega arith

  part_low : t < 2 ^ 53 → t * d ≤ n
  part_low h = subst (λ (z : ℕ). z * d ≤ n) (part h) (div-mul-le_self n d)

  part_high : t < 2 ^ 53 → n < t * d + d
  part_high h = subst (λ (z : ℕ). n < z * d + d) (part h) (lt-div-mul-add D)

  up_is : t < 2 ^ 53 → t * d < n → min (quotient_up n d) (2 ^ 64 - 1) ≡ t + 1
  up_is h l = ap (λ (z : ℕ). min z (2 ^ 64 - 1)) (up_more t n d D l (part_high h)) ∙ uncapped (t + 1) (omega arith)

  here_is : t < 2 ^ 53 → n ≤ t * d → min (quotient_up n d) (2 ^ 64 - 1) ≡ t
  here_is h l = ap (λ (z : ℕ). min z (2 ^ 64 - 1)) (up_same t n d D (le_antisymm (part_low h) l)) ∙ uncapped t (omega arith)

-- the comparison with t, t being exact
below_is : (t m : ℕ) (e : ℤ) → t < 2 ^ 53 → lt (of_int binary64 (pos t)) (fin false m e) ≡ ltb (t * down e) (m * up e * 1)
unfolding of_int
below_is t m e h = lt_values (round binary64 false t 1) (fin false m e) false false t 1 (m * up e) (down e) (pow_pos 0) (down_pos e) (round_whole binary64 false t (le_of_lt h)) (refl, refl)

none_below : (m : ℕ) (e : ℤ) → lt (of_int binary64 (pos 0)) (fin true m e) ≡ false
unfolding of_int
none_below m e = lt_values (round binary64 false 0 1) (fin true m e) false true 0 1 (m * up e) (down e) (pow_pos 0) (down_pos e) (round_whole binary64 false 0 zero-le) (refl, refl)

none_below_nan : lt (of_int binary64 (pos 0)) nan ≡ false
unfolding of_int lt
none_below_nan = refl

none_below_inf : lt (of_int binary64 (pos 0)) (inf true) ≡ false
unfolding of_int lt
none_below_inf = refl

pub ceil_up : (x : Float) → to_unsigned 64 x < 2 ^ 53 → lt (of_int binary64 (pos (to_unsigned 64 x))) x ≡ true → to_unsigned 64 x + 1 ≡ ceil_capped x
unfolding to_unsigned ceil_capped
ceil_up nan h l = absurd (subst T (sym (sym none_below_nan ∙ l)) tt)
ceil_up (inf true) h l = absurd (subst T (sym (sym none_below_inf ∙ l)) tt)
ceil_up (inf false) h l = omega arith
ceil_up (fin true m e) h l = absurd (subst T (sym (sym (none_below m e) ∙ l)) tt)
ceil_up (fin false m e) h l = sym (up_is (m * up e) (down e) _ (down_pos e) refl h (less (down e) (m * up e) _ (ltb-true _ (m * up e * 1) (sym (below_is _ m e h) ∙ l))))
  where
    less : (d n t : ℕ) → t * d < n * 1 → t * d < n
    less d n t h = omega arith

pub ceil_here : (x : Float) → to_unsigned 64 x < 2 ^ 53 → lt (of_int binary64 (pos (to_unsigned 64 x))) x ≡ false → to_unsigned 64 x ≡ ceil_capped x
unfolding to_unsigned ceil_capped
ceil_here nan h l = refl
ceil_here (inf true) h l = refl
ceil_here (inf false) h l = refl
ceil_here (fin true m e) h l = refl
ceil_here (fin false m e) h l = sym (here_is (m * up e) (down e) _ (down_pos e) refl h (most (down e) (m * up e) _ (ltb-false _ (m * up e * 1) (sym (below_is _ m e h) ∙ l))))
  where
    most : (d n t : ℕ) → n * 1 ≤ t * d → n ≤ t * d
    most d n t h = omega arith

-- from 2 ^ 53 on a number has no fraction
pub ceil_whole : (x : Float) → T (fits binary64 x) → 2 ^ 53 ≤ to_unsigned 64 x → to_unsigned 64 x ≡ ceil_capped x
unfolding to_unsigned ceil_capped
ceil_whole nan f h = refl
ceil_whole (inf true) f h = refl
ceil_whole (inf false) f h = refl
ceil_whole (fin true m e) f h = refl
ceil_whole (fin false m e) f h =
    ap (λ (z : ℕ). min z (2 ^ 64 - 1))
    (same (m * up e) (down e) (no_fraction m e (digits false m e f).small ((le-div_iff_mul-le (down_pos e)).0 (long (m * up e / down e) h))))
  where
    long : (q : ℕ) → 2 ^ 53 ≤ min q (2 ^ 64 - 1) → 2 ^ 53 ≤ q
    long q h = omega arith

    same : (n d : ℕ) → d ≡ 1 → n / d ≡ quotient_up n d
    same n d e = subst (λ (z : ℕ). n / z ≡ quotient_up n z) (sym e) (one n)
      where
        one : (n : ℕ) → n / 1 ≡ quotient_up n 1
        one n = omega arith
