-- No other binary64 number is as near to the root of a number above zero as its rounded root: the neighbours of the rounded root are past the middles.
-- Assumes nothing.
use Rattle.std.proofs.Common.{◌≡◌, ℕ, zero, suc, ◌+◌, ◌-◌, ◌*◌, ◌/◌, ◌%◌, ◌^◌, ◌<◌, ◌≤◌, false, T, sym, ap, ◌∙◌, subst, inl, inr, le_trans, le_of_eq, lt_of_lt_of_le, lt_of_le_of_lt, le_of_lt, mul-le-mul_right, mul_assoc, mul-le-mul, lt_of_mul-lt-mul_right, eq-or-lt_of_le, mul-lt-mul_of_pos_right, mul-pos, lt_of_not-le, sub-add_cancel, mul_right_comm, not-le_of_lt, le_of_mul-le-mul_right, arith, pow_pos, pow_mono, pow-add}
use native.Mathlib.Nat.{mul-mul-mul_comm, eq_of_mul-eq-mul_right}
use native.Mathlib.Decide.{dec_le}
use lib.Ieee.{Float, nan, inf, fin, binary64, up, down, size, fits, to_bits}
use lib.Ieee.Digits.{size-lt, size-le, size_reaches}
use lib.Ieee.Exact.{HasValue}
use lib.Ieee.Positive.{positive}
use lib.Ieee.Fits.{down_pos}
use Rattle.binary64.specs.Root.{root}
use Rattle.binary64.specs.NearestRoot.{NearestRoot}
use Rattle.binary64.proofs.WholeRoots.{IsRoot, lt_square, odd_square, root_is}
use Rattle.binary64.proofs.RoundedRoots.{R_lo, half_lo, four_pow}
use Rattle.binary64.proofs.Values.{digits, place}
use Rattle.binary64.proofs.Patterns.{mantissa, pattern_of_lem, scale_of, sqrt_value}

-- ---- a number of the format that is not negative is a whole number of units, of at most 53 digits and then zeros
pub record Units (Y : ℕ) : Type 0 where
  pub m : ℕ
  pub j : ℕ
  pub is : Y ≡ m * 2 ^ j
  pub small : m < 2 ^ 53

pub units_of : (y : Float) (Y : ℕ) → T (fits binary64 y) → HasValue y false Y (2 ^ 1074) → Units Y
units_of nan Y f h = absurd h
units_of (inf s) Y f h = absurd h
units_of (fin s m e) Y f h =
    let g = digits s m e f in
    let p = place 1074 e g.fine in
    record { m = m; j = p.0; is = eq_of_mul-eq-mul_right (down e) (down_pos e) Y (m * 2 ^ p.0) (sym h.1 ∙ mul_assoc m (up e) (2 ^ 1074) ∙ ap (λ (z : ℕ). m * z) p.1 ∙ sym (mul_assoc m (2 ^ p.0) (down e))); small = g.small }

-- ---- the next numbers of the format, above and below q * 2 ^ k
finer : (m j k : ℕ) → m < 2 ^ 53 → j < k → m * 2 ^ j < 2 ^ 52 * 2 ^ k
finer m j k h o =
    let l : 53 + j ≤ 52 + k = omega arith in
    lt_of_lt_of_le (mul-lt-mul_of_pos_right h (pow_pos j)) (le_trans (le_of_eq (sym (pow-add 2 53 j))) (le_trans (pow_mono l) (le_of_eq (pow-add 2 52 k))))

coarse : (m j q k : ℕ) → m < 2 ^ 53 → 2 ^ 52 ≤ q → q * 2 ^ k ≤ m * 2 ^ j → k ≤ j
coarse m j q k h l g = elim (dec_le k j) [
  | yes o ↦ o
  | no o ↦ absurd (not-le_of_lt (lt_of_lt_of_le (finer m j k h (lt_of_not-le o)) (mul-le-mul_right (2 ^ k) l)) g)
]

-- a multiple of 2 ^ k
shifted : (m j k : ℕ) → k ≤ j → m * 2 ^ j ≡ m * 2 ^ (j - k) * 2 ^ k
shifted m j k h = ap (λ (z : ℕ). m * 2 ^ z) (sym (sub-add_cancel h)) ∙ ap (λ (z : ℕ). m * z) (pow-add 2 (j - k) k) ∙ sym (mul_assoc m (2 ^ (j - k)) (2 ^ k))

-- one multiple of p more
step : (a b p : ℕ) → a * p < b * p → a * p + p ≤ b * p
step a b p h = le_trans (le_of_eq (more a p)) (mul-le-mul_right p (lt_of_mul-lt-mul_right p h))
  where
    more : (a p : ℕ) → a * p + p ≡ suc a * p
    more a p = omega arith

pub next_above : (m j q k : ℕ) → m < 2 ^ 53 → 2 ^ 52 ≤ q → q * 2 ^ k < m * 2 ^ j → q * 2 ^ k + 2 ^ k ≤ m * 2 ^ j
next_above m j q k h l g =
    let e = shifted m j k (coarse m j q k h l (le_of_lt g)) in
    le_trans (step q (m * 2 ^ (j - k)) (2 ^ k) (subst (λ (z : ℕ). q * 2 ^ k < z) e g)) (le_of_eq (sym e))

-- below, where q is not the least number of 53 digits
pub next_below : (m j q k : ℕ) → m < 2 ^ 53 → 2 ^ 52 < q → m * 2 ^ j < q * 2 ^ k → m * 2 ^ j + 2 ^ k ≤ q * 2 ^ k
next_below m j q k h l g = elim (dec_le k j) [
  | yes o ↦ let e = shifted m j k o in subst (λ (z : ℕ). z + 2 ^ k ≤ q * 2 ^ k) (sym e) (step (m * 2 ^ (j - k)) q (2 ^ k) (subst (λ (z : ℕ). z < q * 2 ^ k) e g))
  | no o ↦ le_trans (add_right (m * 2 ^ j) (2 ^ 52 * 2 ^ k) (2 ^ k) (le_of_lt (finer m j k h (lt_of_not-le o)))) (step (2 ^ 52) q (2 ^ k) (mul-lt-mul_of_pos_right l (pow_pos k)))
]
  where
    add_right : (a b p : ℕ) → a ≤ b → a + p ≤ b + p
    add_right a b p h = omega arith

-- ---- the middles, squared
record Nearest (U A : ℕ) : Type 0 where
  above : (Y : ℕ) → Units Y → A < Y → U * 2 ^ 1074 * 4 < (A + Y) * (A + Y)
  below : (Y : ℕ) → Units Y → Y < A → (A + Y) * (A + Y) < U * 2 ^ 1074 * 4

module _ (U M t R : ℕ) (W : U * 2 ^ 126 ≡ M * 2 ^ 54 * 4 ^ t) (lo : 2 ^ 52 ≤ M) (hi : M < 2 ^ 54) (is : IsRoot (M * 2 ^ 54) R) where
  in_units : U * 2 ^ 1074 * 4 ≡ M * 2 ^ 54 * (2 ^ (t + 475) * 2 ^ (t + 475))
  in_units =
      mul_assoc U (2 ^ 1074) 4
      ∙ sym (mul_assoc U (2 ^ 126) (2 ^ 950))
      ∙ ap (λ (z : ℕ). z * 2 ^ 950) (W ∙ ap (λ (z : ℕ). M * 2 ^ 54 * z) (four_pow t))
      ∙ mul_assoc (M * 2 ^ 54) (2 ^ t * 2 ^ t) (2 ^ 950)
      ∙ ap (λ (z : ℕ). M * 2 ^ 54 * z) (sym (ap (λ (z : ℕ). z * z) (pow-add 2 t 475) ∙ mul-mul-mul_comm (2 ^ t) (2 ^ 475) (2 ^ t) (2 ^ 475)))

  -- a square below, or above, in units
  past : (a b K : ℕ) → 0 < K → M * 2 ^ 54 < a * a → a * K ≤ b → M * 2 ^ 54 * (K * K) < b * b
  past a b K P h l = lt_of_lt_of_le (mul-lt-mul_of_pos_right h (mul-pos P P)) (le_trans (le_of_eq (sym (mul-mul-mul_comm a K a K))) (mul-le-mul l l))

  short : (a b K : ℕ) → 0 < K → a * a < M * 2 ^ 54 → b ≤ a * K → b * b < M * 2 ^ 54 * (K * K)
  short a b K P h l = lt_of_le_of_lt (le_trans (mul-le-mul l l) (le_of_eq (mul-mul-mul_comm a K a K))) (mul-lt-mul_of_pos_right h (mul-pos P P))

  -- an odd number at most R: its square is not M * 2 ^ 54, which is even
  odd_below : (k : ℕ) → k * 2 + 1 ≤ R → (k * 2 + 1) * (k * 2 + 1) < M * 2 ^ 54
  odd_below k h = elim (eq-or-lt_of_le (le_trans (mul-le-mul h h) is.low)) [ inl e ↦ absurd (odd_square k M e) | inr l ↦ l ]

  nearest : Nearest U ((R / 2 + R % 2) * 2 ^ (t + 475))
  nearest = record {
    above = λ Y u h.
        let q = R / 2 + R % 2 in
        let K = 2 ^ (t + 475) in
        let n : q * K + K ≤ Y = subst (λ (z : ℕ). q * K + K ≤ z) (sym u.is) (next_above u.m u.j q (t + 475) u.small (half_lo M R lo hi is) (subst (λ (z : ℕ). q * K < z) u.is h)) in
        lt_of_le_of_lt (le_of_eq in_units) (past (q * 2 + 1) (q * K + Y) K (pow_pos (t + 475)) (lt_of_lt_of_le is.high (mul-le-mul (most R) (most R))) (far q K Y n));
    below = λ Y u h.
        let q = R / 2 + R % 2 in
        let K = 2 ^ (t + 475) in
        lt_of_lt_of_le
        (elim (eq-or-lt_of_le (half_lo M R lo hi is)) [
          | inl e ↦ lt_of_lt_of_le (lt_square (q * K + Y) (R * K) (least q R K Y (sym e) h (R_lo M R lo hi is))) (le_trans (le_of_eq (mul-mul-mul_comm R K R K)) (mul-le-mul_right (K * K) is.low))
          | inr l ↦
              let n : Y + K ≤ q * K = subst (λ (z : ℕ). z + K ≤ q * K) (sym u.is) (next_below u.m u.j q (t + 475) u.small l (subst (λ (z : ℕ). z < q * K) u.is h)) in
              short ((q - 1) * 2 + 1) (q * K + Y) K (pow_pos (t + 475)) (odd_below (q - 1) (odd_most R (R_lo M R lo hi is))) (near q K Y l n)
        ])
        (le_of_eq (sym in_units));
  }
    where
      most : (R : ℕ) → R + 1 ≤ (R / 2 + R % 2) * 2 + 1
      most R = omega arith

      far : (q K Y : ℕ) → q * K + K ≤ Y → (q * 2 + 1) * K ≤ q * K + Y
      far q K Y h = omega arith

      least : (q R K Y : ℕ) → q ≡ 2 ^ 52 → Y < q * K → 2 ^ 53 ≤ R → q * K + Y < R * K
      least q R K Y e h l = lt_of_lt_of_le (double (q * K) Y h) (le_trans (le_of_eq (ap (λ (z : ℕ). z * K * 2) e ∙ mul_right_comm (2 ^ 52) K 2)) (mul-le-mul_right K l))
        where
          double : (a Y : ℕ) → Y < a → a + Y < a * 2
          double a Y h = omega arith

      odd_most : (R : ℕ) → 2 ^ 53 ≤ R → (R / 2 + R % 2 - 1) * 2 + 1 ≤ R
      odd_most R h = omega arith

      near : (q K Y : ℕ) → 2 ^ 52 < q → Y + K ≤ q * K → q * K + Y ≤ ((q - 1) * 2 + 1) * K
      near zero K Y l h = omega arith
      near (suc k) K Y l h = let e : suc k - 1 ≡ k = omega arith in subst (λ (z : ℕ). suc k * K + Y ≤ (z * 2 + 1) * K) (sym e) (omega arith)

-- ---- any number above zero, times 4 ^ 600, is M * 2 ^ 54 * 4 ^ t with an M of 53 or 54 digits
pub record Even (N : ℕ) : Type 0 where
  pub M : ℕ
  pub t : ℕ
  pub same : N ≡ M * 2 ^ 54 * 4 ^ t
  pub lo : 2 ^ 52 ≤ M
  pub hi : M < 2 ^ 54
  pub far : t ≤ 1100

pub even : (m e : ℕ) → m < 2 ^ 53 → 2 ^ 126 ≤ m * 2 ^ e → e ≤ 2171 → Even (m * 2 ^ e)
even m e h l f =
    let N = m * 2 ^ e in
    let z = size N in
    let k = (z - 53) / 2 in
    let z-hi : z ≤ 53 + e = size-le N (53 + e) (lt_of_lt_of_le (mul-lt-mul_of_pos_right h (pow_pos e)) (le_of_eq (sym (pow-add 2 53 e)))) in
    let z-lo : 126 < z = lt_of_not-le (λ (g : z ≤ 126). not-le_of_lt (lt_of_lt_of_le (size-lt N) (pow_mono g)) l) in
    let M = m * 2 ^ (e - (k + k)) in
    let s : N ≡ M * 2 ^ (k + k) = shifted m e (k + k) (fits_in z e z-hi) in
    record {
      M = M;
      t = k - 27;
      same = s ∙ ap (λ (x : ℕ). M * x) (ap (λ (x : ℕ). 2 ^ x) (parts z z-lo) ∙ pow-add 2 54 (k - 27 + (k - 27)) ∙ ap (λ (x : ℕ). 2 ^ 54 * x) (pow-add 2 (k - 27) (k - 27) ∙ sym (four_pow (k - 27)))) ∙ sym (mul_assoc M (2 ^ 54) (4 ^ (k - 27)));
      lo = le_of_mul-le-mul_right (le_trans (le_of_eq (sym (pow-add 2 52 (k + k)))) (le_trans (pow_mono (low z z-lo)) (le_trans (size_reaches N (z - 1) (pred z z-lo)) (le_of_eq s)))) (pow_pos (k + k));
      hi = lt_of_mul-lt-mul_right (2 ^ (k + k)) (lt_of_le_of_lt (le_of_eq (sym s)) (lt_of_lt_of_le (size-lt N) (le_trans (pow_mono (high z)) (le_of_eq (pow-add 2 54 (k + k))))));
      far = most z e z-hi f;
    }
  where
    fits_in : (z e : ℕ) → z ≤ 53 + e → (z - 53) / 2 + (z - 53) / 2 ≤ e
    fits_in z e h = omega arith

    parts : (z : ℕ) → 126 < z → (z - 53) / 2 + (z - 53) / 2 ≡ 54 + ((z - 53) / 2 - 27 + ((z - 53) / 2 - 27))
    parts z h = omega arith

    low : (z : ℕ) → 126 < z → 52 + ((z - 53) / 2 + (z - 53) / 2) ≤ z - 1
    low z h = omega arith

    pred : (z : ℕ) → 126 < z → z - 1 < z
    pred z h = omega arith

    high : (z : ℕ) → z ≤ 54 + ((z - 53) / 2 + (z - 53) / 2)
    high z = omega arith

    most : (z e : ℕ) → z ≤ 53 + e → e ≤ 2171 → (z - 53) / 2 - 27 ≤ 1100
    most z e h f = omega arith

-- ---- the theorem
pub nearest_root : (x : Float) → T (fits binary64 x) → T (positive x) → NearestRoot x
nearest_root x f p =
    let b = to_bits binary64 x in
    let w = scale_of x b (pattern_of_lem x f p) in
    let v = even (mantissa (b / 2 ^ 52) (b % 2 ^ 52)) (b / 2 ^ 52 - 1 + 126) w.small w.least w.far in
    let W : w.U * 2 ^ 126 ≡ v.M * 2 ^ 54 * 4 ^ v.t = sym w.same ∙ v.same in
    let R = root (v.M * 2 ^ 54) in
    let n = nearest w.U v.M v.t R W v.lo v.hi (root_is (v.M * 2 ^ 54)) in
    record {
      U = w.U;
      A = (R / 2 + R % 2) * 2 ^ (v.t + 475);
      number = w.value;
      rounded = sqrt_value x w.U v.M v.t R p w.value W v.lo v.hi v.far (root_is (v.M * 2 ^ 54));
      above = λ y Y g h. n.above Y (units_of y Y g h);
      below = λ y Y g h. n.below Y (units_of y Y g h);
    }
