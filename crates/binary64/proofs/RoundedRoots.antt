-- The rounded root from a root of 54 binary digits: with R the root of M * 4 ^ 27, the root of M * 4 ^ h / 4 ^ 600 rounds to (R + 1) / 2, cut, times
-- 2 ^ (h - 626). No number is halfway between two floats: an odd R is no exact root. Assumes nothing.
use Rattle.std.proofs.Common.{◌≡◌, ℕ, zero, suc, ◌+◌, ◌-◌, ◌*◌, ◌/◌, ◌%◌, ◌^◌, ◌<◌, ◌≤◌, Bool, true, false, cond, not, T, eqb, sym, refl, ap, ◌∙◌, subst, inl, inr, le_trans, le_of_eq, lt_of_lt_of_le, lt_of_le_of_lt, mul-le-mul_right, mul_assoc, eq-zero-or-pos, le_antisymm, mul-lt-mul_of_pos_right, mul-pos, pow-suc, lt_of_not-le, not-le_of_lt, mul-div_cancel, mul_left_comm, arith, eqb→eq, leb→le, pow_pos, pow_mono, pow-add, mul_comm, mul_right_comm, le-div_iff_mul-le, div-lt_iff_lt-mul}
use Prim.Native.Nat.{compare, Ordering}
use native.Mathlib.Nat.{mul-mul-mul_comm, eq_of_mul-eq-mul_right}
use lib.Dec.{is_le, compare_is_eq, nleb→lt}
use lib.Pow.{pow-lt}
use lib.Arith.{digits_div, digits_mod}
use lib.Ieee.{Float, binary64, size, nearest, units, round, root_below, root_twice}
use lib.Ieee.Root.{whole_part}
use lib.Ieee.Digits.{size-lt, size-le}
use lib.Ieee.Fits.{core, round_is}
use lib.Ieee.Exact.{HasValue, units_val}
use lib.Ieee.Nearest.{closest, closest_same}
use Rattle.binary64.specs.Root.{root, root_rounded}
use Rattle.binary64.proofs.WholeRoots.{IsRoot, square_lt, less_one, odd_square, root_is, Longer, longer}

-- ---- to the nearest, off a tie
module _ (q x y : ℕ) where
  pub nearest_lt : x < y → nearest q (compare x y) ≡ q
  nearest_lt h = go (compare x y) (eqb→eq x y) (nleb→lt x y)
    where
      go : (o : Ordering) → (T (compare_is_eq o) → x ≡ y) → (T (not (is_le o)) → y < x) → nearest q o ≡ q
      go Ordering.lt e g = refl
      go Ordering.eq e g = let k = e tt in omega arith
      go Ordering.gt e g = let k = g tt in omega arith

  pub nearest_gt : y < x → nearest q (compare x y) ≡ suc q
  nearest_gt h = go (compare x y) (leb→le x y)
    where
      go : (o : Ordering) → (T (is_le o) → x ≤ y) → nearest q o ≡ suc q
      go Ordering.lt f = let k = f tt in omega arith
      go Ordering.eq f = let k = f tt in omega arith
      go Ordering.gt f = refl

-- ---- 2 * r + s over 4 * D, where r is R * D and a rest
closest_at : (q m : ℕ) {r : ℕ} → r < m → closest (q * m + r) m ≡ nearest q (compare (r * 2) m)
closest_at q m {r} h = ap (λ (z : ℕ). nearest z (compare ((q * m + r) % m * 2) m)) (digits_div q h) ∙ ap (λ (z : ℕ). nearest q (compare (z * 2) m)) (digits_mod q h)

pub closest_half : (R D ρ s : ℕ) → ρ < D → s ≤ 1 → (R % 2 ≡ 1 → 0 < ρ + s) → closest ((R * D + ρ) * 2 + s) (D * 4) ≡ R / 2 + R % 2
closest_half R D ρ s h k odd = go (R % 2) (R / 2) (RD (R / 2) (R % 2) D R (parts R)) (bit R) odd
  where
    parts : (R : ℕ) → R ≡ R / 2 * 2 + R % 2
    parts R = omega arith

    bit : (R : ℕ) → R % 2 ≤ 1
    bit R = omega arith

    RD : (a b D R : ℕ) → R ≡ a * 2 + b → R * D ≡ a * D * 2 + b * D
    RD a b D R e = ap (λ (z : ℕ). z * D) e ∙ spread a b D
      where
        spread : (a b D : ℕ) → (a * 2 + b) * D ≡ a * D * 2 + b * D
        spread a b D = omega arith

    even_form : (x aD ρ s a D : ℕ) → aD ≡ a * D → x ≡ aD * 2 + 0 * D → (x + ρ) * 2 + s ≡ a * (D * 4) + (ρ * 2 + s)
    even_form x aD ρ s a D e f = omega arith

    odd_form : (x aD ρ s a D : ℕ) → aD ≡ a * D → x ≡ aD * 2 + 1 * D → (x + ρ) * 2 + s ≡ a * (D * 4) + (D * 2 + ρ * 2 + s)
    odd_form x aD ρ s a D e f = omega arith

    go : (b a : ℕ) → R * D ≡ a * D * 2 + b * D → b ≤ 1 → (b ≡ 1 → 0 < ρ + s) → closest ((R * D + ρ) * 2 + s) (D * 4) ≡ a + b
    go zero a e l o =
        ap (λ (z : ℕ). closest z (D * 4)) (even_form (R * D) (a * D) ρ s a D refl e)
        ∙ closest_at a (D * 4) (few ρ s D h k)
        ∙ nearest_lt a ((ρ * 2 + s) * 2) (D * 4) (under ρ s D h k)
        ∙ same a
      where
        few : (ρ s D : ℕ) → ρ < D → s ≤ 1 → ρ * 2 + s < D * 4
        few ρ s D h k = omega arith

        under : (ρ s D : ℕ) → ρ < D → s ≤ 1 → (ρ * 2 + s) * 2 < D * 4
        under ρ s D h k = omega arith

        same : (a : ℕ) → a ≡ a + 0
        same a = omega arith
    go (suc zero) a e l o =
        ap (λ (z : ℕ). closest z (D * 4)) (odd_form (R * D) (a * D) ρ s a D refl e)
        ∙ closest_at a (D * 4) (few ρ s D h k)
        ∙ nearest_gt a ((D * 2 + ρ * 2 + s) * 2) (D * 4) (over ρ s D (o refl))
        ∙ same a
      where
        few : (ρ s D : ℕ) → ρ < D → s ≤ 1 → D * 2 + ρ * 2 + s < D * 4
        few ρ s D h k = omega arith

        over : (ρ s D : ℕ) → 0 < ρ + s → D * 4 < (D * 2 + ρ * 2 + s) * 2
        over ρ s D h = omega arith

        same : (a : ℕ) → suc a ≡ a + 1
        same a = omega arith
    go (suc (suc b)) a e l o = omega arith

-- ---- how many digits a number has
pub size_is : (x k : ℕ) → 2 ^ k ≤ x → x < 2 ^ (k + 1) → size x ≡ k + 1
size_is x k lo hi = le_antisymm (size-le x (k + 1) hi) (up (size x) k (lt_of_not-le (λ (g : size x ≤ k). not-le_of_lt (lt_of_lt_of_le (size-lt x) (pow_mono g)) lo)))
  where
    up : (z k : ℕ) → k < z → k + 1 ≤ z
    up z k h = omega arith

-- ---- a / 2 ^ E rounded, for an a of t + 55 digits: q times 2 ^ k units
module _ (a t E k q : ℕ) (at : k + E ≡ t + 1076) (K : k ≤ 2000) (lo : 2 ^ (54 + t) ≤ a) (hi : a < 2 ^ (55 + t)) (near : closest a (2 ^ t * 4) ≡ q) (small : q ≤ 2 ^ 53) where
  size_at : size (a * 2 ^ 1074 / 2 ^ E) ≡ k + 52 + 1
  size_at = size_is (a * 2 ^ 1074 / 2 ^ E) (k + 52)
      ((le-div_iff_mul-le (pow_pos E)).1 (le_trans (le_of_eq (sym (pow-add 2 (k + 52) E) ∙ ap (λ (z : ℕ). 2 ^ z) (places k E t at) ∙ pow-add 2 (54 + t) 1074)) (mul-le-mul_right (2 ^ 1074) lo)))
      ((div-lt_iff_lt-mul (pow_pos E)).1 (lt_of_lt_of_le (mul-lt-mul_of_pos_right hi (pow_pos 1074)) (le_of_eq (sym (sym (pow-add 2 (k + 52 + 1) E) ∙ ap (λ (z : ℕ). 2 ^ z) (places' k E t at) ∙ pow-add 2 (55 + t) 1074)))))
    where
      places : (k E t : ℕ) → k + E ≡ t + 1076 → k + 52 + E ≡ 54 + t + 1074
      places k E t h = omega arith

      places' : (k E t : ℕ) → k + E ≡ t + 1076 → k + 52 + 1 + E ≡ 55 + t + 1074
      places' k E t h = omega arith

  same_fraction : closest (a * 2 ^ 1074) (2 ^ E * 2 ^ k) ≡ q
  same_fraction =
      closest_same (a * 2 ^ 1074) (2 ^ E * 2 ^ k) a (2 ^ t * 4) (mul-pos (pow_pos E) (pow_pos k)) (mul-pos (pow_pos t) (pow_pos 2))
      (mul_assoc a (2 ^ 1074) (2 ^ t * 4) ∙ ap (λ (z : ℕ). a * z) (mul_left_comm (2 ^ 1074) (2 ^ t) 4 ∙ sym (pow-add 2 t 1076) ∙ ap (λ (z : ℕ). 2 ^ z) (sym at) ∙ pow-add 2 k E ∙ mul_comm (2 ^ k) (2 ^ E)))
      ∙ near

  rounds_to : round binary64 false a (2 ^ E) ≡ units binary64 false q k
  rounds_to =
      round_is binary64 false a (2 ^ E)
      ∙ ap (λ (z : ℕ). core binary64 false (a * 2 ^ 1074) (2 ^ E) z) (ap (λ (z : ℕ). z - 53) size_at ∙ left k)
      ∙ ap (λ (z : ℕ). units binary64 false z k) same_fraction
    where
      left : (k : ℕ) → k + 52 + 1 - 53 ≡ k
      left k = omega arith

  within : q * 2 ^ k < 2 ^ (1074 + 1024)
  within = lt_of_le_of_lt (mul-le-mul_right (2 ^ k) small) (lt_of_le_of_lt (le_of_eq (sym (pow-add 2 53 k))) (pow-lt (far k K)))
    where
      far : (k : ℕ) → k ≤ 2000 → 53 + k < 1074 + 1024
      far k h = omega arith

  units_at : HasValue (round binary64 false a (2 ^ E)) false (q * 2 ^ k) (2 ^ 1074)
  units_at = subst (λ (x : Float). HasValue x false (q * 2 ^ k) (2 ^ 1074)) (sym rounds_to) (units_val binary64 false q k within)

-- the definition's root is rounded at 601 places
pub round_at : (a t q : ℕ) → 2 ^ (54 + t) ≤ a → a < 2 ^ (55 + t) → t ≤ 1100 → closest a (2 ^ t * 4) ≡ q → q ≤ 2 ^ 53 → HasValue (round binary64 false a (2 ^ 601)) false (q * 2 ^ (t + 475)) (2 ^ 1074)
round_at a t q lo hi far near small = units_at a t 601 (t + 475) q (places t) (within_far t far) lo hi near small
  where
    places : (t : ℕ) → t + 475 + 601 ≡ t + 1076
    places t = omega arith

    within_far : (t : ℕ) → t ≤ 1100 → t + 475 ≤ 2000
    within_far t h = omega arith

-- ---- the rounded root
pub four_pow : (t : ℕ) → 4 ^ t ≡ 2 ^ t * 2 ^ t
four_pow zero = refl
four_pow (suc t) = pow-suc 4 t ∙ ap (λ (z : ℕ). z * 4) (four_pow t) ∙ sym (ap (λ (z : ℕ). z * z) (pow-suc 2 t) ∙ mul-mul-mul_comm (2 ^ t) 2 (2 ^ t) 2)

-- ---- the size of a root of 54 digits
module _ (M R : ℕ) (lo : 2 ^ 52 ≤ M) (hi : M < 2 ^ 54) (is : IsRoot (M * 2 ^ 54) R) where
  pub R_lo : 2 ^ 53 ≤ R
  R_lo = less_one (2 ^ 53) R (square_lt (2 ^ 53) (R + 1) (lt_of_le_of_lt (mul-le-mul_right (2 ^ 54) lo) is.high))

  R_hi : R < 2 ^ 54
  R_hi = square_lt R (2 ^ 54) (lt_of_le_of_lt is.low (mul-lt-mul_of_pos_right hi (pow_pos 54)))

  pub half_lo : 2 ^ 52 ≤ R / 2 + R % 2
  half_lo = go R R_lo
    where
      go : (R : ℕ) → 2 ^ 53 ≤ R → 2 ^ 52 ≤ R / 2 + R % 2
      go R h = omega arith

  pub half_hi : R / 2 + R % 2 ≤ 2 ^ 53
  half_hi = go R R_hi
    where
      go : (R : ℕ) → R < 2 ^ 54 → R / 2 + R % 2 ≤ 2 ^ 53
      go R h = omega arith

-- std's root of a whole number
library_root : (n : ℕ) → IsRoot n (root_below (size n) n)
library_root n = let w = whole_part n in record { low = w.0; high = w.1 }

-- ---- r is the root of N, and s tells whether it is all of it; N is M * 2 ^ 54, whose root is R, with t more pairs of digits
module _ (N M t R r s : ℕ) (W : N ≡ M * 2 ^ 54 * (2 ^ t * 2 ^ t)) (lo : 2 ^ 52 ≤ M) (hi : M < 2 ^ 54) (is : IsRoot (M * 2 ^ 54) R) (r_is : IsRoot N r) (s_le : s ≤ 1) (s_zero : s ≡ 0 → r * r ≡ N) where
  parts : Longer R (2 ^ t) r
  parts = longer (M * 2 ^ 54) (2 ^ t) R r (pow_pos t) is (subst (λ (z : ℕ). IsRoot z r) W r_is)

  -- an odd R is no exact root, since M * 2 ^ 54 is even
  no_tie : R % 2 ≡ 1 → 0 < parts.rest + s
  no_tie o = elim (eq-zero-or-pos (parts.rest + s)) [ inl z ↦ absurd (odd_square (R / 2) M (sym (ap (λ (z : ℕ). z * z) (halves R o)) ∙ eq_of_mul-eq-mul_right (2 ^ t * 2 ^ t) (mul-pos (pow_pos t) (pow_pos t)) (R * R) (M * 2 ^ 54) (exact z))) | inr p ↦ p ]
    where
      both_l : (a b : ℕ) → a + b ≡ 0 → a ≡ 0
      both_l a b h = omega arith

      both_r : (a b : ℕ) → a + b ≡ 0 → b ≡ 0
      both_r a b h = omega arith

      drop0 : (x : ℕ) → x + 0 ≡ x
      drop0 x = omega arith

      exact : parts.rest + s ≡ 0 → R * R * (2 ^ t * 2 ^ t) ≡ M * 2 ^ 54 * (2 ^ t * 2 ^ t)
      exact z =
          let e : r ≡ R * 2 ^ t = parts.is ∙ ap (λ (k : ℕ). R * 2 ^ t + k) (both_l parts.rest s z) ∙ drop0 (R * 2 ^ t) in
          sym (mul-mul-mul_comm R (2 ^ t) R (2 ^ t)) ∙ sym (ap (λ (k : ℕ). k * k) e) ∙ s_zero (both_r parts.rest s z) ∙ W

      halves : (R : ℕ) → R % 2 ≡ 1 → R ≡ R / 2 * 2 + 1
      halves R o = omega arith

  a_lo : 2 ^ (54 + t) ≤ r * 2 + s
  a_lo = le_trans (le_of_eq (pow-add 2 54 t)) (go r s (R * 2 ^ t) parts.rest (2 ^ t) parts.is (mul-le-mul_right (2 ^ t) (R_lo M R lo hi is)))
    where
      go : (r s x ρ D : ℕ) → r ≡ x + ρ → 2 ^ 53 * D ≤ x → 2 ^ 54 * D ≤ r * 2 + s
      go r s x ρ D e h = omega arith

  a_hi : r * 2 + s < 2 ^ (55 + t)
  a_hi = lt_of_lt_of_le (go r s (R * 2 ^ t) (suc R * 2 ^ t) parts.rest (2 ^ t) parts.is (one_more R (2 ^ t)) parts.rest_lt (mul-le-mul_right (2 ^ t) (R_hi M R lo hi is)) s_le) (le_of_eq (sym (pow-add 2 55 t)))
    where
      one_more : (R D : ℕ) → suc R * D ≡ R * D + D
      one_more R D = omega arith

      go : (r s x y ρ D : ℕ) → r ≡ x + ρ → y ≡ x + D → ρ < D → y ≤ 2 ^ 54 * D → s ≤ 1 → r * 2 + s < 2 ^ 55 * D
      go r s x y ρ D e f h k l = omega arith

  near : closest (r * 2 + s) (2 ^ t * 4) ≡ R / 2 + R % 2
  near = ap (λ (z : ℕ). closest (z * 2 + s) (2 ^ t * 4)) parts.is ∙ closest_half R (2 ^ t) parts.rest s parts.rest_lt s_le no_tie

  -- rounded at E places: the value does not depend on how many places the root is taken to
  longer_value : (E k : ℕ) → k + E ≡ t + 1076 → k ≤ 2000 → HasValue (round binary64 false (r * 2 + s) (2 ^ E)) false ((R / 2 + R % 2) * 2 ^ k) (2 ^ 1074)
  longer_value E k at K = units_at (r * 2 + s) t E k (R / 2 + R % 2) at K a_lo a_hi near (half_hi M R lo hi is)

-- a last digit that is 0 only where a ≡ b
last_le : (a b : ℕ) → cond (eqb a b) 0 1 ≤ 1
last_le a b = go (eqb a b)
  where
    go : (c : Bool) → cond c 0 1 ≤ 1
    go true = omega arith
    go false = omega arith

last_zero : (a b : ℕ) → ◌≡◌ {A = ℕ} (cond (eqb a b) 0 1) 0 → a ≡ b
last_zero a b = go (eqb a b) (eqb→eq a b)
  where
    go : (c : Bool) → (T c → a ≡ b) → ◌≡◌ {A = ℕ} (cond c 0 1) 0 → a ≡ b
    go true f e = f tt
    go false f e = omega arith

-- ---- W * d ≡ n * 4 ^ 600 says that n / d is W / 4 ^ 600
module _ (n d M t R : ℕ) (D : 0 < d) (W : M * 2 ^ 54 * 4 ^ t * d ≡ n * 4 ^ 600) (lo : 2 ^ 52 ≤ M) (hi : M < 2 ^ 54) (far : t ≤ 1100) (is : IsRoot (M * 2 ^ 54) R) where
  near_far : t + 475 ≤ 2000
  near_far = go t far
    where
      go : (t : ℕ) → t ≤ 1100 → t + 475 ≤ 2000
      go t h = omega arith

  -- the definition's root, to 600 places
  pub rounded_value : HasValue (root_rounded n d) false ((R / 2 + R % 2) * 2 ^ (t + 475)) (2 ^ 1074)
  unfolding root_rounded
  rounded_value =
      let N = n * 4 ^ 600 / d in
      let r = root N in
      let cut : N ≡ M * 2 ^ 54 * 4 ^ t = ap (λ (z : ℕ). z / d) (sym W) ∙ mul-div_cancel (M * 2 ^ 54 * 4 ^ t) D in
      longer_value N M t R r (cond (eqb (r * r * d) (n * 4 ^ 600)) 0 1) (cut ∙ ap (λ (z : ℕ). M * 2 ^ 54 * z) (four_pow t)) lo hi is (root_is N)
      (last_le (r * r * d) (n * 4 ^ 600))
      (λ z. eq_of_mul-eq-mul_right d D (r * r) N (last_zero (r * r * d) (n * 4 ^ 600) z ∙ sym W ∙ ap (λ (x : ℕ). x * d) (sym cut)))
      601 (t + 475) (places t) near_far
    where
      places : (t : ℕ) → t + 475 + 601 ≡ t + 1076
      places t = omega arith

  -- std's root, to 2271 places
  pub library_value : HasValue (round binary64 false (root_twice (n * 2 ^ 4542 / d)) (2 ^ 2272)) false ((R / 2 + R % 2) * 2 ^ (t + 475)) (2 ^ 1074)
  unfolding root_twice
  library_value =
      let N = n * 2 ^ 4542 / d in
      let r = root_below (size N) N in
      let s = cond (eqb (r * r) N) 0 1 in
      let D2 = 2 ^ (t + 1671) in
      let cut : N ≡ M * 2 ^ 54 * (D2 * D2) = ap (λ (z : ℕ). z / d) more ∙ mul-div_cancel (M * 2 ^ 54 * (D2 * D2)) D in
      subst (λ (z : ℕ). HasValue (round binary64 false (z + s) (2 ^ 2272)) false ((R / 2 + R % 2) * 2 ^ (t + 475)) (2 ^ 1074)) (mul_comm r 2)
      (longer_value N M (t + 1671) R r s cut lo hi is (library_root N) (last_le (r * r) N) (last_zero (r * r) N) 2272 (t + 475) (places t) near_far)
    where
      places : (t : ℕ) → t + 475 + 2272 ≡ t + 1671 + 1076
      places t = omega arith

      pairs : 4 ^ t * 2 ^ 3342 ≡ 2 ^ (t + 1671) * 2 ^ (t + 1671)
      pairs = ap (λ (z : ℕ). z * 2 ^ 3342) (four_pow t) ∙ ap (λ (z : ℕ). 2 ^ t * 2 ^ t * z) (pow-add 2 1671 1671) ∙ mul-mul-mul_comm (2 ^ t) (2 ^ t) (2 ^ 1671) (2 ^ 1671) ∙ sym (ap (λ (z : ℕ). z * z) (pow-add 2 t 1671))

      more : n * 2 ^ 4542 ≡ M * 2 ^ 54 * (2 ^ (t + 1671) * 2 ^ (t + 1671)) * d
      more =
          ap (λ (z : ℕ). n * z) (pow-add 2 1200 3342)
          ∙ sym (mul_assoc n (2 ^ 1200) (2 ^ 3342))
          ∙ ap (λ (z : ℕ). z * 2 ^ 3342) (sym W)
          ∙ mul_right_comm (M * 2 ^ 54 * 4 ^ t) d (2 ^ 3342)
          ∙ ap (λ (z : ℕ). z * d) (mul_assoc (M * 2 ^ 54) (4 ^ t) (2 ^ 3342) ∙ ap (λ (z : ℕ). M * 2 ^ 54 * z) pairs)
