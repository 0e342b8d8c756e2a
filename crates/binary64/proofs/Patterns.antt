-- The digits and the exponent that the bit pattern of a binary64 number above zero holds, and the rounded root by them. What a pattern's upper half, and its
-- bit 62, tell of a number's size. Assumes nothing.
use Rattle.std.proofs.Common.{◌≡◌, ℕ, zero, suc, ◌+◌, ◌-◌, ◌*◌, ◌/◌, ◌%◌, ◌^◌, ◌<◌, ◌≤◌, Bool, true, false, cond, not, T, eqb, leb, sym, refl, ap, ◌∙◌, subst, le_trans, le_of_eq, mul-le-mul_right, mod-lt, mod-eq_of_lt, mul_assoc, mul-le-mul, one-mul, mul_right_comm, le_of_mul-le-mul_right, arith, lit≤, pow_pos, pow_mono, pow-add, ne_eqb, le-leb, leb-false, inl, inr, lt_of_le_of_lt, mul_comm, eq-or-lt_of_le, mul-le-mul_left, mul-lt-mul_of_pos_right, lt_of_not-le, mul-one, not-le_of_lt, le-ltb}
use lib.Dec.{eqb_refl}
use lib.Ieee.{Float, nan, inf, fin, binary64, up, down, odd, of_fields, of_bits, to_bits, sqrt, is_nan, fits, le, nan_bits}
use lib.Ieee.Fits.{down_pos, round-fits}
use lib.Ieee.Bits.{of_bits-to_bits, of_bits-fits, nan_bits_above}
use lib.Ieee.Exact.{HasValue, odd_sign}
use lib.Ieee.Positive.{positive, value_pos, first_pos}
use Rattle.binary64.specs.Numbers.{at_most}
use Rattle.binary64.specs.Root.{sqrt_of, root_rounded}
use Rattle.binary64.proofs.WholeRoots.{IsRoot}
use Rattle.binary64.proofs.RoundedRoots.{rounded_value, library_value, half_lo, half_hi, four_pow}
use native.Mathlib.Nat.{pow-succ'}
use lib.Bits.{bit_or, or_shr, or_mod, or_add_and, and_le_l, and_le_r}
use lib.Arith.{digits_div, digits_mod}
use borrow.Author.Tests.{lt-leb}
use Rattle.binary64.proofs.Values.{value_unique}

-- the digits that a field X of the exponent and a field t of the digits stand for
abbrev pub mantissa : ℕ → ℕ → ℕ
mantissa zero t = t
mantissa (suc x) t = 2 ^ 52 + t

-- ---- what a number above zero says of the fields that it was read from
pub record FieldsOf (y : Float) (s : Bool) (X t : ℕ) : Type 0 where
  pub sign : s ≡ false
  pub not_ones : X ≡ 2047 → ⊥
  pub value : HasValue y false (mantissa X t * 2 ^ (X - 1)) (2 ^ 1074)

sign_of : (y : Float) (s : Bool) (a c : ℕ) → T (positive y) → HasValue y s a c → s ≡ false
sign_of nan s a c p h = absurd p
sign_of (inf u) s a c p h = absurd p
sign_of (fin true m e) s a c p h = absurd p
sign_of (fin false m e) s a c p h = sym h.0

of_odd : (y : Float) (s : Bool) (X t k : ℕ) → (X ≡ 2047 → ⊥) → X - 1 ≡ k → T (positive y) → HasValue y s (mantissa X t * 2 ^ k) (2 ^ 1074) → FieldsOf y s X t
of_odd y s X t k o e p h =
    let f = sign_of y s (mantissa X t * 2 ^ k) (2 ^ 1074) p h in
    record { sign = f; not_ones = o; value = subst (λ (z : ℕ). HasValue y false (mantissa X t * 2 ^ z) (2 ^ 1074)) (sym e) (subst (λ (z : Bool). HasValue y z (mantissa X t * 2 ^ k) (2 ^ 1074)) f h) }

fields_of : (s : Bool) (X t : ℕ) → T (positive (of_fields binary64 s X t)) → FieldsOf (of_fields binary64 s X t) s X t
unfolding of_fields
fields_of s zero t p = of_odd (odd 53 s t 0 1074) s zero t 0 (no) refl p (odd_sign 53 s t 0 1074)
  where
    no : ◌≡◌ {A = ℕ} 0 2047 → ⊥
    no e = omega arith
fields_of s (suc x) t p = go (eqb (suc x) 2047) (λ e. subst (λ (z : ℕ). T (eqb (suc x) z)) e (eqb_refl (suc x))) (eqb t 0) p
  where
    less : (x : ℕ) → suc x - 1 ≡ x
    less x = omega arith

    go : (b : Bool) → (suc x ≡ 2047 → T b) → (u : Bool) → T (positive (cond b (cond u (inf s) nan) (odd 53 s (2 ^ 52 + t) x 1074))) → FieldsOf (cond b (cond u (inf s) nan) (odd 53 s (2 ^ 52 + t) x 1074)) s (suc x) t
    go true f true p = absurd p
    go true f false p = absurd p
    go false f u p = of_odd (odd 53 s (2 ^ 52 + t) x 1074) s (suc x) t x f (less x) p (odd_sign 53 s (2 ^ 52 + t) x 1074)

-- ---- the pattern of a number above zero
pub record PatternOf (x : Float) (b : ℕ) : Type 0 where
  pub under : b / 2 ^ 52 ≤ 2046
  pub digits_pos : 0 < mantissa (b / 2 ^ 52) (b % 2 ^ 52)
  pub value : HasValue x false (mantissa (b / 2 ^ 52) (b % 2 ^ 52) * 2 ^ (b / 2 ^ 52 - 1)) (2 ^ 1074)

pub pattern_of_lem : (x : Float) → T (fits binary64 x) → T (positive x) → PatternOf x (to_bits binary64 x)
unfolding of_bits
pattern_of_lem x f p =
    let b = to_bits binary64 x in
    let e : of_bits binary64 b ≡ x = of_bits-to_bits binary64 x f in
    let w = fields_of (leb (2 ^ 63) b) (b % 2 ^ 63 / 2 ^ 52) (b % 2 ^ 52) (subst (λ (y : Float). T (positive y)) (sym e) p) in
    let l : b < 2 ^ 63 = leb-false (2 ^ 63) b w.sign in
    let m : b % 2 ^ 63 / 2 ^ 52 ≡ b / 2 ^ 52 = ap (λ (z : ℕ). z / 2 ^ 52) (mod-eq_of_lt l) in
    let v : HasValue x false (mantissa (b / 2 ^ 52) (b % 2 ^ 52) * 2 ^ (b / 2 ^ 52 - 1)) (2 ^ 1074) = subst (λ (z : ℕ). HasValue x false (mantissa z (b % 2 ^ 52) * 2 ^ (z - 1)) (2 ^ 1074)) m (subst (λ (y : Float). HasValue y false (mantissa (b % 2 ^ 63 / 2 ^ 52) (b % 2 ^ 52) * 2 ^ (b % 2 ^ 63 / 2 ^ 52 - 1)) (2 ^ 1074)) e w.value) in
    record {
      under = high b l (λ (o : b / 2 ^ 52 ≡ 2047). w.not_ones (m ∙ o));
      digits_pos = first_pos (mantissa (b / 2 ^ 52) (b % 2 ^ 52)) (2 ^ (b / 2 ^ 52 - 1)) (value_pos x _ (2 ^ 1074) p (pow_pos 1074) v);
      value = v;
    }
  where
    lemma : (q : ℕ) → q < 2048 → (q ≡ 2047 → ⊥) → q ≤ 2046
    lemma q h n = omega arith

    high : (b : ℕ) → b < 2 ^ 63 → (b / 2 ^ 52 ≡ 2047 → ⊥) → b / 2 ^ 52 ≤ 2046
    high b h n = lemma (b / 2 ^ 52) (part b h) n
      where
        part : (b : ℕ) → b < 2 ^ 63 → b / 2 ^ 52 < 2048
        part b h = omega arith

-- ---- the number of a pattern of fields X and t
read_fields : (X t : ℕ) → t < 2 ^ 52 → X < 2048 → of_bits binary64 (X * 2 ^ 52 + t) ≡ of_fields binary64 false X t
unfolding of_bits
read_fields X t h k =
    let b = X * 2 ^ 52 + t in
    let l : b < 2 ^ 63 = room X t h k in
    ap (λ (z : Bool). of_fields binary64 z (b % 2 ^ 63 / 2 ^ 52) (b % 2 ^ 52)) (lt-leb (2 ^ 63) b l)
    ∙ ap (λ (z : ℕ). of_fields binary64 false (z / 2 ^ 52) (b % 2 ^ 52)) (mod-eq_of_lt l)
    ∙ ap (λ (z : ℕ). of_fields binary64 false z (b % 2 ^ 52)) (digits_div X h)
    ∙ ap (λ (z : ℕ). of_fields binary64 false X z) (digits_mod X h)
  where
    room : (X t : ℕ) → t < 2 ^ 52 → X < 2048 → X * 2 ^ 52 + t < 2 ^ 63
    room X t h k = omega arith

normal_value : (x t : ℕ) → t < 2 ^ 52 → x < 2046 → HasValue (of_bits binary64 (suc x * 2 ^ 52 + t)) false ((2 ^ 52 + t) * 2 ^ x) (2 ^ 1074)
unfolding of_fields
normal_value x t h k =
    subst (λ (y : Float). HasValue y false ((2 ^ 52 + t) * 2 ^ x) (2 ^ 1074))
    (sym (read_fields (suc x) t h (more x k) ∙ ap (λ (z : Bool). cond z (cond (eqb t 0) (inf false) nan) (odd 53 false (2 ^ 52 + t) x 1074)) (ne_eqb (suc x) 2047 (not_ones x k))))
    (odd_sign 53 false (2 ^ 52 + t) x 1074)
  where
    more : (x : ℕ) → x < 2046 → suc x < 2048
    more x k = omega arith

    not_ones : (x : ℕ) → x < 2046 → suc x ≡ 2047 → ⊥
    not_ones x k e = omega arith

-- q with 53 digits, or 2 ^ 53, at the exponent's field k + 1
pub pattern_value : (k q : ℕ) → 2 ^ 52 ≤ q → q ≤ 2 ^ 53 → k ≤ 2000 → HasValue (of_bits binary64 (k * 2 ^ 52 + q)) false (q * 2 ^ k) (2 ^ 1074)
pattern_value k q lo hi l = elim (eq-or-lt_of_le hi) [ inl e ↦ full e | inr h ↦ part h ]
  where
    part : q < 2 ^ 53 → HasValue (of_bits binary64 (k * 2 ^ 52 + q)) false (q * 2 ^ k) (2 ^ 1074)
    part h =
        subst (λ (z : ℕ). HasValue (of_bits binary64 z) false (q * 2 ^ k) (2 ^ 1074)) (sum_is k q lo)
        (subst (λ (z : ℕ). HasValue (of_bits binary64 (suc k * 2 ^ 52 + (q - 2 ^ 52))) false (z * 2 ^ k) (2 ^ 1074)) (back q lo) (normal_value k (q - 2 ^ 52) (few q h lo) (below k l)))
      where
        sum_is : (k q : ℕ) → 2 ^ 52 ≤ q → suc k * 2 ^ 52 + (q - 2 ^ 52) ≡ k * 2 ^ 52 + q
        sum_is k q h = omega arith

        back : (q : ℕ) → 2 ^ 52 ≤ q → 2 ^ 52 + (q - 2 ^ 52) ≡ q
        back q h = omega arith

        few : (q : ℕ) → q < 2 ^ 53 → 2 ^ 52 ≤ q → q - 2 ^ 52 < 2 ^ 52
        few q h l = omega arith

        below : (k : ℕ) → k ≤ 2000 → k < 2046
        below k h = omega arith

    full : q ≡ 2 ^ 53 → HasValue (of_bits binary64 (k * 2 ^ 52 + q)) false (q * 2 ^ k) (2 ^ 1074)
    full e =
        subst (λ (z : ℕ). HasValue (of_bits binary64 (k * 2 ^ 52 + z)) false (z * 2 ^ k) (2 ^ 1074)) (sym e)
        (subst (λ (z : ℕ). HasValue (of_bits binary64 z) false (2 ^ 53 * 2 ^ k) (2 ^ 1074)) (sum_is k)
        (subst (λ (z : ℕ). HasValue (of_bits binary64 (suc (suc k) * 2 ^ 52 + 0)) false z (2 ^ 1074)) (ap (λ (z : ℕ). 2 ^ 52 * z) (pow-succ' 2 k) ∙ sym (mul_assoc (2 ^ 52) 2 (2 ^ k))) (normal_value (suc k) 0 (pow_pos 52) (below k l))))
      where
        sum_is : (k : ℕ) → suc (suc k) * 2 ^ 52 + 0 ≡ k * 2 ^ 52 + 2 ^ 53
        sum_is k = omega arith

        below : (k : ℕ) → k ≤ 2000 → suc k < 2046
        below k h = omega arith

pub pattern_no_nan : (k q : ℕ) → q ≤ 2 ^ 53 → k ≤ 2000 → T (not (nan_bits binary64 (k * 2 ^ 52 + q)))
pattern_no_nan k q h l = subst (λ (z : Bool). T (not z)) (sym (nan_bits_above binary64 (k * 2 ^ 52 + q) ∙ le-ltb (2047 * 2 ^ 52) ((k * 2 ^ 52 + q) % 2 ^ 63) (under k q h l))) tt
  where
    under : (k q : ℕ) → q ≤ 2 ^ 53 → k ≤ 2000 → (k * 2 ^ 52 + q) % 2 ^ 63 ≤ 2047 * 2 ^ 52
    under k q h l = omega arith

-- ---- the rounded root of a number above zero, U / 2 ^ 1074; std's is the same
module _ (x : Float) (U M t R : ℕ) (p : T (positive x)) (v : HasValue x false U (2 ^ 1074)) (W : U * 2 ^ 126 ≡ M * 2 ^ 54 * 4 ^ t) (lo : 2 ^ 52 ≤ M) (hi : M < 2 ^ 54) (far : t ≤ 1100) (is : IsRoot (M * 2 ^ 54) R) where
  frac : (n d : ℕ) → n * 2 ^ 1074 ≡ U * d → M * 2 ^ 54 * 4 ^ t * d ≡ n * 4 ^ 600
  frac n d h = ap (λ (z : ℕ). z * d) (sym W) ∙ mul_right_comm U (2 ^ 126) d ∙ ap (λ (z : ℕ). z * 2 ^ 126) (sym h) ∙ mul_assoc n (2 ^ 1074) (2 ^ 126)

  pub sqrt_value : HasValue (sqrt_of x) false ((R / 2 + R % 2) * 2 ^ (t + 475)) (2 ^ 1074)
  unfolding sqrt_of
  sqrt_value = go x p v
    where
      go : (x : Float) → T (positive x) → HasValue x false U (2 ^ 1074) → HasValue (sqrt_of x) false ((R / 2 + R % 2) * 2 ^ (t + 475)) (2 ^ 1074)
      go nan p v = absurd p
      go (inf u) p v = absurd p
      go (fin true m e) p v = absurd p
      go (fin false zero e) p v = absurd p
      go (fin false (suc m) e) p v = rounded_value (suc m * up e) (down e) M t R (down_pos e) (frac (suc m * up e) (down e) v.1) lo hi far is

  pub library_sqrt_value : HasValue (sqrt binary64 x) false ((R / 2 + R % 2) * 2 ^ (t + 475)) (2 ^ 1074)
  unfolding sqrt
  library_sqrt_value = go x p v
    where
      go : (x : Float) → T (positive x) → HasValue x false U (2 ^ 1074) → HasValue (sqrt binary64 x) false ((R / 2 + R % 2) * 2 ^ (t + 475)) (2 ^ 1074)
      go nan p v = absurd p
      go (inf u) p v = absurd p
      go (fin true m e) p v = absurd p
      go (fin false zero e) p v = absurd p
      go (fin false (suc m) e) p v = library_value (suc m * up e) (down e) M t R (down_pos e) (frac (suc m * up e) (down e) v.1) lo hi far is

pub sqrt_fits : (x : Float) → T (positive x) → T (fits binary64 (sqrt_of x))
unfolding sqrt_of root_rounded
sqrt_fits nan p = absurd p
sqrt_fits (inf u) p = absurd p
sqrt_fits (fin true m e) p = absurd p
sqrt_fits (fin false zero e) p = absurd p
sqrt_fits (fin false (suc m) e) p = round-fits binary64 false _ _

-- its pattern
module _ (x : Float) (U M t R : ℕ) (p : T (positive x)) (v : HasValue x false U (2 ^ 1074)) (W : U * 2 ^ 126 ≡ M * 2 ^ 54 * 4 ^ t) (lo : 2 ^ 52 ≤ M) (hi : M < 2 ^ 54) (far : t ≤ 1100) (is : IsRoot (M * 2 ^ 54) R) where
  pub sqrt_pattern : of_bits binary64 ((t + 475) * 2 ^ 52 + (R / 2 + R % 2)) ≡ sqrt_of x
  sqrt_pattern =
      value_unique binary64 (of_bits binary64 ((t + 475) * 2 ^ 52 + (R / 2 + R % 2))) (sqrt_of x) false ((R / 2 + R % 2) * 2 ^ (t + 475)) (2 ^ 1074) (pow_pos 1074)
      (of_bits-fits binary64 ((t + 475) * 2 ^ 52 + (R / 2 + R % 2))) (sqrt_fits x p)
      (pattern_value (t + 475) (R / 2 + R % 2) (half_lo M R lo hi is) (half_hi M R lo hi is) (near t far)) (sqrt_value x U M t R p v W lo hi far is)
    where
      near : (t : ℕ) → t ≤ 1100 → t + 475 ≤ 2000
      near t h = omega arith

-- ---- x * 4 ^ 600 as m * 2 ^ e
pub record Scale (x : Float) (m e : ℕ) : Type 0 where
  pub U : ℕ
  pub value : HasValue x false U (2 ^ 1074)
  pub same : m * 2 ^ e ≡ U * 2 ^ 126
  pub least : 2 ^ 126 ≤ m * 2 ^ e
  pub small : m < 2 ^ 53
  pub far : e ≤ 2171

pub scale_of : (x : Float) (b : ℕ) → PatternOf x b → Scale x (mantissa (b / 2 ^ 52) (b % 2 ^ 52)) (b / 2 ^ 52 - 1 + 126)
scale_of x b w =
    let m = mantissa (b / 2 ^ 52) (b % 2 ^ 52) in
    let k = b / 2 ^ 52 - 1 in
    record {
      U = m * 2 ^ k;
      value = w.value;
      same = ap (λ (z : ℕ). m * z) (pow-add 2 k 126) ∙ sym (mul_assoc m (2 ^ k) (2 ^ 126));
      least = le_trans (le_of_eq (sym (one-mul (2 ^ 126)))) (mul-le-mul w.digits_pos (pow_mono (more k)));
      small = few_digits (b / 2 ^ 52) (b % 2 ^ 52) (mod-lt b (pow_pos 52));
      far = most (b / 2 ^ 52) w.under;
    }
  where
    few_digits : (X t : ℕ) → t < 2 ^ 52 → mantissa X t < 2 ^ 53
    few_digits zero t h = omega arith
    few_digits (suc X) t h = omega arith

    more : (k : ℕ) → 126 ≤ k + 126
    more k = omega arith

    most : (q : ℕ) → q ≤ 2046 → q - 1 + 126 ≤ 2171
    most q h = omega arith

-- as the program reads the pattern: with the leading digit, and without
pub scale_normal : (x : Float) (b m e : ℕ) → PatternOf x b → 0 < b / 2 ^ 52 → m ≡ b % 2 ^ 52 + 2 ^ 52 → e ≡ b / 2 ^ 52 + 125 → Scale x m e
scale_normal x b m e w h p q = subst (λ (n : ℕ). Scale x n e) (sym (p ∙ lead (b / 2 ^ 52) (b % 2 ^ 52) h)) (subst (Scale x _) (sym (q ∙ later (b / 2 ^ 52) h)) (scale_of x b w))
  where
    lead : (X t : ℕ) → 0 < X → t + 2 ^ 52 ≡ mantissa X t
    lead zero t h = omega arith
    lead (suc X) t h = omega arith

    later : (X : ℕ) → 0 < X → X + 125 ≡ X - 1 + 126
    later X h = omega arith

pub scale_subnormal : (x : Float) (b m e : ℕ) → PatternOf x b → b / 2 ^ 52 ≤ 0 → m ≡ b % 2 ^ 52 → e ≡ 126 → Scale x m e
scale_subnormal x b m e w h p q = subst (λ (n : ℕ). Scale x n e) (sym (p ∙ none (b / 2 ^ 52) (b % 2 ^ 52) h)) (subst (Scale x _) (sym (q ∙ first (b / 2 ^ 52) h)) (scale_of x b w))
  where
    none : (X t : ℕ) → X ≤ 0 → t ≡ mantissa X t
    none zero t h = refl
    none (suc X) t h = omega arith

    first : (X : ℕ) → X ≤ 0 → 126 ≡ X - 1 + 126
    first X h = omega arith

pub rescaled : (x : Float) (m e n f : ℕ) → Scale x m e → n * 2 ^ f ≡ m * 2 ^ e → n < 2 ^ 53 → f ≤ e → Scale x n f
rescaled x m e n f w h s l =
    record { U = w.U; value = w.value; same = h ∙ w.same; least = subst (λ (z : ℕ). 2 ^ 126 ≤ z) (sym h) w.least; small = s; far = le_trans l w.far }

exponent_least : (m e : ℕ) → m < 2 ^ 53 → 2 ^ 126 ≤ m * 2 ^ e → 74 ≤ e
exponent_least m e h k = lt_of_not-le (λ (g : e ≤ 73). not-le_of_lt (lt_of_le_of_lt (mul-le-mul_left m (pow_mono g)) (mul-lt-mul_of_pos_right h (pow_pos 73))) k)

-- ---- an even exponent: the digits m, doubled where e is odd
pub even_digits_low : (m e : ℕ) → 2 ^ 52 ≤ m → 2 ^ 52 ≤ m * (1 + e % 2)
even_digits_low m e h = le_trans h (le_trans (le_of_eq (sym (mul-one m))) (mul-le-mul_left m (more e)))
  where
    more : (e : ℕ) → 1 ≤ 1 + e % 2
    more e = omega arith

pub even_digits_high : (m e : ℕ) → m < 2 ^ 53 → m * (1 + e % 2) < 2 ^ 54
even_digits_high m e h = lt_of_le_of_lt (mul-le-mul_left m (two e)) (twice m h)
  where
    two : (e : ℕ) → 1 + e % 2 ≤ 2
    two e = omega arith

    twice : (m : ℕ) → m < 2 ^ 53 → m * 2 < 2 ^ 54
    twice m h = omega arith

-- 2 ^ e is 4 ^ (e / 2), twice where e is odd
even_part : (e : ℕ) → 2 ^ e ≡ 4 ^ (e / 2) * (1 + e % 2)
even_part e =
    ap (λ (z : ℕ). 2 ^ z) (halves e)
    ∙ pow-add 2 (e / 2 + e / 2) (e % 2)
    ∙ ap (λ (z : ℕ). z * 2 ^ (e % 2)) (pow-add 2 (e / 2) (e / 2) ∙ sym (four_pow (e / 2)))
    ∙ ap (λ (z : ℕ). 4 ^ (e / 2) * z) (digit (e % 2) (mod-lt e (pow_pos 1)))
  where
    halves : (e : ℕ) → e ≡ e / 2 + e / 2 + e % 2
    halves e = omega arith

    digit : (b : ℕ) → b < 2 → 2 ^ b ≡ 1 + b
    digit zero h = refl
    digit (suc zero) h = refl
    digit (suc (suc b)) h = omega arith

-- ---- the rounded root as the program writes it, R being the root of the digits
pub record Written (x : Float) (e R : ℕ) : Type 0 where
  pub exponent : e / 2 + 448 ≤ 2000
  pub digits : R / 2 + R % 2 ≤ 2 ^ 53
  pub root : of_bits binary64 ((e / 2 + 448) * 2 ^ 52 + (R / 2 + R % 2)) ≡ sqrt_of x

pub from_root : (x : Float) (m e R : ℕ) → T (positive x) → Scale x m e → 2 ^ 52 ≤ m → IsRoot (m * (1 + e % 2) * 2 ^ 54) R → Written x e R
from_root x m e R p w lo is =
    let M = m * (1 + e % 2) in
    let e-low : 74 ≤ e = exponent_least m e w.small w.least in
    let t = e / 2 - 27 in
    let back : t + 27 ≡ e / 2 = omega arith in
    let k : t + 475 ≡ e / 2 + 448 = omega arith in
    let M-lo = even_digits_low m e lo in
    let M-hi = even_digits_high m e w.small in
    let split : w.U * 2 ^ 126 ≡ M * 2 ^ 54 * 4 ^ t =
    sym w.same
    ∙ ap (λ (z : ℕ). m * z) (even_part e ∙ ap (λ (z : ℕ). z * (1 + e % 2)) (ap (λ (z : ℕ). 4 ^ z) (sym back) ∙ pow-add 4 t 27))
    ∙ order m (4 ^ t) (4 ^ 27) (1 + e % 2) in
    record {
      exponent = most e w.far;
      digits = half_hi M R M-lo M-hi is;
      root = ap (λ (z : ℕ). of_bits binary64 (z * 2 ^ 52 + (R / 2 + R % 2))) (sym k) ∙ sqrt_pattern x w.U M t R p w.value split M-lo M-hi (near e w.far) is;
    }
  where
    order : (m a b c : ℕ) → m * (a * b * c) ≡ m * c * b * a
    order m a b c = ap (λ (z : ℕ). m * z) (mul_comm (a * b) c ∙ ap (λ (z : ℕ). c * z) (mul_comm a b) ∙ sym (mul_assoc c b a)) ∙ sym (mul_assoc m (c * b) a) ∙ ap (λ (z : ℕ). z * a) (sym (mul_assoc m c b))

    most : (e : ℕ) → e ≤ 2171 → e / 2 + 448 ≤ 2000
    most e h = omega arith

    near : (e : ℕ) → e ≤ 2171 → e / 2 - 27 ≤ 1100
    near e h = omega arith

pub positive_no_nan : (x : Float) → T (positive x) → T (not (is_nan x))
unfolding is_nan
positive_no_nan nan p = absurd p
positive_no_nan (inf s) p = tt
positive_no_nan (fin s m e) p = tt

-- ---- bit 62, the exponent's first, of an or of patterns
pub clear_or : (a b : ℕ) → bit_or a b / 2 ^ 62 % 2 ≡ 0 → (a / 2 ^ 62 % 2 ≡ 0) × (b / 2 ^ 62 % 2 ≡ 0)
clear_or a b h = none (a / 2 ^ 62 % 2) (b / 2 ^ 62 % 2) (sym (ap (λ (z : ℕ). z % 2) (or_shr a b 62) ∙ or_mod (a / 2 ^ 62) (b / 2 ^ 62) 1) ∙ h)
  where
    none : (x y : ℕ) → bit_or x y ≡ 0 → (x ≡ 0) × (y ≡ 0)
    none x y e = (omega (arith, or_add_and x y, and_le_r x y), omega (arith, or_add_and x y, and_le_l x y))

-- ---- the exponent's field of 2^20 is 1043: a number with a lower one is below 2^20 in size. Where bit 62, the field's first, is clear, the field is below 1024
low_fields : (s : Bool) (X t : ℕ) → X < 1043 → HasValue (of_fields binary64 s X t) s (mantissa X t * 2 ^ (X - 1)) (2 ^ 1074)
unfolding of_fields
low_fields s zero t l = odd_sign 53 s t 0 1074
low_fields s (suc x) t l =
    subst (λ (z : ℕ). HasValue (of_fields binary64 s (suc x) t) s ((2 ^ 52 + t) * 2 ^ z) (2 ^ 1074)) (less x)
    (subst (λ (b : Bool). HasValue (cond b (cond (eqb t 0) (inf s) nan) (odd 53 s (2 ^ 52 + t) x 1074)) s ((2 ^ 52 + t) * 2 ^ x) (2 ^ 1074)) (sym (ne_eqb (suc x) 2047 (not_ones x l))) (odd_sign 53 s (2 ^ 52 + t) x 1074))
  where
    less : (x : ℕ) → x ≡ suc x - 1
    less x = omega arith

    not_ones : (x : ℕ) → suc x < 1043 → suc x ≡ 2047 → ⊥
    not_ones x l e = omega arith

small_digits : (X t : ℕ) → X < 1043 → t < 2 ^ 52 → mantissa X t * 2 ^ (X - 1) ≤ 2 ^ 53 * 2 ^ 1041
small_digits X t l h = let least : X - 1 ≤ 1041 = omega arith in mul-le-mul (few X t h) (pow_mono least)
  where
    few : (X t : ℕ) → t < 2 ^ 52 → mantissa X t ≤ 2 ^ 53
    few zero t h = omega arith
    few (suc x) t h = omega arith

small_value : (x : Float) (s : Bool) (a : ℕ) → a ≤ 2 ^ 53 * 2 ^ 1041 → HasValue x s a (2 ^ 1074) → at_most 20 x ≡ true
unfolding at_most
small_value nan s a l v = absurd v
small_value (inf u) s a l v = absurd v
small_value (fin u m e) s a l v = le-leb (m * up e) (2 ^ 20 * down e) (le_of_mul-le-mul_right (le_trans (le_of_eq v.1) (le_trans (mul-le-mul_right (down e) (le_trans l (lit≤ tt))) (le_of_eq (mul_right_comm (2 ^ 20) (2 ^ 1074) (down e))))) (pow_pos 1074))

field_pattern : (x : Float) → T (fits binary64 x) → to_bits binary64 x % 2 ^ 63 / 2 ^ 52 < 1043 → at_most 20 x ≡ true
unfolding of_bits
field_pattern x f l =
    let b = to_bits binary64 x in
    small_value x (leb (2 ^ 63) b) (mantissa (b % 2 ^ 63 / 2 ^ 52) (b % 2 ^ 52) * 2 ^ (b % 2 ^ 63 / 2 ^ 52 - 1)) (small_digits (b % 2 ^ 63 / 2 ^ 52) (b % 2 ^ 52) l (mod-lt b (pow_pos 52)))
    (subst (λ (y : Float). HasValue y (leb (2 ^ 63) b) (mantissa (b % 2 ^ 63 / 2 ^ 52) (b % 2 ^ 52) * 2 ^ (b % 2 ^ 63 / 2 ^ 52 - 1)) (2 ^ 1074)) (of_bits-to_bits binary64 x f) (low_fields (leb (2 ^ 63) b) (b % 2 ^ 63 / 2 ^ 52) (b % 2 ^ 52) l))

pub clear_pattern : (x : Float) → T (fits binary64 x) → to_bits binary64 x / 2 ^ 62 % 2 ≡ 0 → at_most 20 x ≡ true
clear_pattern x f h = field_pattern x f (field (to_bits binary64 x) h)
  where
    field : (b : ℕ) → b / 2 ^ 62 % 2 ≡ 0 → b % 2 ^ 63 / 2 ^ 52 < 1043
    field b h = omega arith

-- the upper half without the sign, below that of 2^20
pub low_pattern : (x : Float) → T (fits binary64 x) → to_bits binary64 x / 2 ^ 32 % 2 ^ 31 < 0x4130_0000 → at_most 20 x ≡ true
low_pattern x f h = field_pattern x f (field (to_bits binary64 x) h)
  where
    field : (b : ℕ) → b / 2 ^ 32 % 2 ^ 31 < 0x4130_0000 → b % 2 ^ 63 / 2 ^ 52 < 1043
    field b h = omega arith

-- a number has a pattern
pub number_no_nan : (x : Float) → le x x ≡ true → T (not (is_nan x))
unfolding is_nan le
number_no_nan nan h = absurd (subst T (sym h) tt)
number_no_nan (inf s) h = tt
number_no_nan (fin s m e) h = tt
