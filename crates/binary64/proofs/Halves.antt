-- Laws of `nearest_capped`: a number is rounded, halves away from zero, by its doubled size cut to a whole number. A number doubled is exact, and one too
-- large for that is capped. Assumes nothing.
use Rattle.std.proofs.Common.{◌≡◌, ℕ, zero, suc, ◌+◌, ◌-◌, ◌*◌, ◌/◌, ◌%◌, ◌^◌, ◌<◌, ◌≤◌, min, Bool, true, false, T, ℤ, pos, neg_ℤ, sym, refl, ap, ◌∙◌, subst, lt_of_lt_of_le, mul-le-mul_right, mul_assoc, div-lt_iff_lt-mul, add-mul, lt_of_mul-lt-mul_right, mul-lt-mul_of_pos_right, mul-pos, le-div_iff_mul-le, mul-add, mul_right_comm, arith, lit≤, pow_pos, w64, leb→le, eqb→eq, ◌-ℤ◌, eqb, lt_of_not-le}
use lib.IntN.{◌+ℤ◌, +ℤ_idl}
use native.Mathlib.Decide.{dec_le}
use native.Mathlib.Nat.{div-div-eq-div-mul, add-div_right, two-pow-succ}
use lib.Ieee.{Float, nan, inf, fin, binary64, up, down, lt, le, eq, add, sum, round, to_unsigned, fits}
use lib.Ieee.Order.{round_mono}
use lib.Ieee.Fits.{down_pos, and_r}
use lib.Ieee.Exact.{HasValue, round_exact}
use Rattle.std.specs.Float.{float_with_sign}
use Rattle.std.specs.Int.{saturate_signed}
use Rattle.binary64.specs.Numbers.{◌⊕◌}
use Rattle.binary64.specs.Rounding.{quotient_half_up, nearest_capped}
use Rattle.binary64.proofs.Values.{cut_below, revalue, digits, place}
use Rattle.binary64.proofs.Sizes.{plus_not_below, minus_not_above, le_form}

-- ---- doubled
num_is : (m U d L J : ℕ) → U * L ≡ J * d → (m * U * d + m * U * d) * L ≡ m * (J + J) * (d * d)
num_is m U d L J h =
    let one : m * U * d * L ≡ m * J * (d * d) = mul_right_comm (m * U) d L ∙ ap (λ (z : ℕ). z * d) (mul_assoc m U L ∙ ap (λ (z : ℕ). m * z) h ∙ sym (mul_assoc m J d)) ∙ mul_assoc (m * J) d d in
    add-mul (m * U * d) (m * U * d) L ∙ ap (λ (z : ℕ). z + m * U * d * L) one ∙ ap (λ (z : ℕ). m * J * (d * d) + z) one ∙ sym (add-mul (m * J) (m * J) (d * d)) ∙ ap (λ (z : ℕ). z * (d * d)) (sym (mul-add m J J))

under_is : (m U d L J B : ℕ) → 0 < d → 0 < L → U * L ≡ J * d → m * U * 2 < B * d → m * (J + J) < B * L
under_is m U d L J B D LP h k =
    lt_of_mul-lt-mul_right d (subst (λ (z : ℕ). z < B * L * d) e (subst (λ (z : ℕ). m * U * 2 * L < z) (mul_right_comm B d L) (mul-lt-mul_of_pos_right k LP)))
  where
    e : m * U * 2 * L ≡ m * (J + J) * d
    e = mul_right_comm (m * U) 2 L ∙ ap (λ (z : ℕ). z * 2) (mul_assoc m U L ∙ ap (λ (z : ℕ). m * z) h ∙ sym (mul_assoc m J d)) ∙ twice (m * J * d) ∙ sym (add-mul (m * J) (m * J) d) ∙ ap (λ (z : ℕ). z * d) (sym (mul-add m J J))
      where
        twice : (a : ℕ) → a * 2 ≡ a + a
        twice a = omega arith

pub double_exact : (m : ℕ) (e : ℤ) → T (fits binary64 (fin false m e)) → m * up e * 2 < 2 ^ 1024 * down e → HasValue (fin false m e ⊕ fin false m e) false (m * up e * 2) (down e)
unfolding add sum
double_exact m e t h =
    let A = m * up e * down e in
    let d = down e in
    let D : 0 < d = down_pos e in
    let g = digits false m e t in
    let p = place 1074 e g.fine in
    let J = 2 ^ p.0 in
    revalue (round binary64 false (A + A) (d * d)) false (A + A) (d * d) (m * up e * 2) d (mul-pos D D) (scaled (m * up e) d)
    (round_exact binary64 false (A + A) (d * d) m (suc p.0) (mul-pos D D) g.small
    (subst (λ (z : ℕ). m * z < 2 ^ (1074 + 1024)) (sym (two-pow-succ p.0)) (under_is m (up e) d (2 ^ 1074) J (2 ^ 1024) D (pow_pos 1074) p.1 h))
    (num_is m (up e) d (2 ^ 1074) J p.1 ∙ ap (λ (z : ℕ). m * z * (d * d)) (sym (two-pow-succ p.0))))
  where
    scaled : (x d : ℕ) → (x * d + x * d) * d ≡ x * 2 * (d * d)
    scaled x d = omega arith

-- ---- n / d rounded, from 2 * n / d cut to a whole number
half_up : (n d : ℕ) → 0 < d → quotient_half_up n d ≡ n * 2 / d / 2 + n * 2 / d % 2
half_up n d D = sym (div-div-eq-div-mul (n * 2 + d) d 2) ∙ ap (λ (z : ℕ). z / 2) (add-div_right (n * 2) D) ∙ halves (n * 2 / d)
  where
    halves : (t : ℕ) → (t + 1) / 2 ≡ t / 2 + t % 2
    halves t = omega arith

half_big : (n d : ℕ) → 0 < d → 2 ^ 63 * d ≤ n → 2 ^ 63 ≤ quotient_half_up n d
half_big n d D h = (le-div_iff_mul-le (mul-pos D (pow_pos 1))).1 (subst (λ (z : ℕ). z ≤ n * 2 + d) (mul_assoc (2 ^ 63) d 2) (more (2 ^ 63 * d) n d h))
  where
    more : (a n d : ℕ) → a ≤ n → a * 2 ≤ n * 2 + d
    more a n d h = omega arith

-- ---- x rounds to k in size; the sign is known by whether x is below zero
pub record Rounds (x : Float) (k : ℕ) : Type 0 where
  pub minus : lt x (fin false 0 (pos 0)) ≡ true → nearest_capped x ≡ neg_ℤ (pos (min k (2 ^ 63)))
  pub plus : lt x (fin false 0 (pos 0)) ≡ false → nearest_capped x ≡ pos (min k (2 ^ 63 - 1))

zero_half : (d : ℕ) → 0 < d → quotient_half_up 0 d ≡ 0
zero_half d D = lt_one (quotient_half_up 0 d) ((div-lt_iff_lt-mul {k = d * 2} {x = 0 * 2 + d} {y = 1} (mul-pos D (pow_pos 1))).1 (more d D))
  where
    lt_one : (a : ℕ) → a < 1 → a ≡ 0
    lt_one a h = omega arith

    more : (d : ℕ) → 0 < d → 0 * 2 + d < 1 * (d * 2)
    more d D = omega arith

finite_rounds : (s : Bool) (m : ℕ) (e : ℤ) → Rounds (fin s m e) (quotient_half_up (m * up e) (down e))
unfolding nearest_capped
finite_rounds true m e = record { minus = λ h. refl; plus = λ h. zero_side (m * up e) (down e) (down_pos e) (minus_not_above m e h) }
  where
    zero_side : (n d : ℕ) → 0 < d → n ≡ 0 → neg_ℤ (pos (min (quotient_half_up n d) (2 ^ 63))) ≡ pos (min (quotient_half_up n d) (2 ^ 63 - 1))
    zero_side n d D h =
        let z : quotient_half_up n d ≡ 0 = ap (λ (k : ℕ). quotient_half_up k d) h ∙ zero_half d D in
        ap (λ (k : ℕ). neg_ℤ (pos (min k (2 ^ 63)))) z ∙ sym (ap (λ (k : ℕ). pos (min k (2 ^ 63 - 1))) z)
finite_rounds false m e = record { minus = λ h. absurd (plus_not_below m e h); plus = λ h. refl }

-- ---- a size of 2 ^ 63 or more: the range's end
capped_rounds : (x : Float) (k : ℕ) → 2 ^ 63 ≤ k → Rounds x k → Rounds x (2 ^ 63)
capped_rounds x k h w = record { minus = λ p. w.minus p ∙ ap (λ (z : ℕ). neg_ℤ (pos z)) (top k h); plus = λ p. w.plus p ∙ ap pos (under k h) }
  where
    top : (k : ℕ) → 2 ^ 63 ≤ k → min k (2 ^ 63) ≡ 2 ^ 63
    top k h = omega arith

    under : (k : ℕ) → 2 ^ 63 ≤ k → min k (2 ^ 63 - 1) ≡ 2 ^ 63 - 1
    under k h = omega arith

-- ---- the doubled size cut to a whole number, and capped to u64, as the program does
abbrev pub doubled : Float → ℕ
doubled x = to_unsigned 64 (float_with_sign false x ⊕ float_with_sign false x)

from_cap : (y : Float) → T (le (fin false 1 (pos 64)) y) → to_unsigned 64 y ≡ 2 ^ 64 - 1
unfolding le lt eq to_unsigned
from_cap nan h = absurd h
from_cap (inf true) h = absurd h
from_cap (inf false) h = refl
from_cap (fin true m e) h = absurd (none (down e) (down_pos e) (eqb→eq (1 * 2 ^ 64 * down e) 0 (and_r (eqb (1 * 2 ^ 64 * down e) (m * up e * 1)) (eqb (1 * 2 ^ 64 * down e) 0) h)))
  where
    none : (d : ℕ) → 0 < d → 1 * 2 ^ 64 * d ≡ 0 → ⊥
    none d D h = omega arith
from_cap (fin false m e) h = cap (m * up e / down e) ((le-div_iff_mul-le (down_pos e)).1 (over (m * up e) (down e) (leb→le (1 * 2 ^ 64 * down e) (m * up e * 1) (subst T (le_form (1 * 2 ^ 64 * down e) (m * up e * 1)) h))))
  where
    over : (n d : ℕ) → 1 * 2 ^ 64 * d ≤ n * 1 → 2 ^ 64 * d ≤ n
    over n d h = omega arith

    cap : (q : ℕ) → 2 ^ 64 ≤ q → min q (2 ^ 64 - 1) ≡ 2 ^ 64 - 1
    cap q h = omega arith

-- a size of 2 ^ 63 or more
doubled_large : (s : Bool) (m : ℕ) (e : ℤ) → 2 ^ 63 * down e ≤ m * up e → doubled (fin s m e) ≡ 2 ^ 64 - 1
unfolding float_with_sign add sum
doubled_large s m e h =
    let d = down e in
    let A = m * up e * d in
    from_cap (round binary64 false (A + A) (d * d)) (subst (λ (y : Float). T (le y (round binary64 false (A + A) (d * d)))) (unfold round in refl) (round_mono binary64 (2 ^ 64) 1 (A + A) (d * d) (pow_pos 0) (mul-pos (down_pos e) (down_pos e)) (twice d (2 ^ 63 * d * d) A (order d) (mul-le-mul_right d h))))
  where
    order : (d : ℕ) → 2 ^ 63 * d * d ≡ 2 ^ 63 * (d * d)
    order d = mul_assoc (2 ^ 63) d d

    twice : (d P A : ℕ) → P ≡ 2 ^ 63 * (d * d) → P ≤ A → 2 ^ 64 * (d * d) ≤ (A + A) * 1
    twice d P A e h = omega arith

-- a size below it
same_fits : (s : Bool) (m : ℕ) (e : ℤ) → T (fits binary64 (fin s m e)) → T (fits binary64 (fin false m e))
unfolding fits
same_fits s zero e t = t
same_fits s (suc m) e t = t

doubled_small : (s : Bool) (m : ℕ) (e : ℤ) → T (fits binary64 (fin s m e)) → m * up e < 2 ^ 63 * down e → doubled (fin s m e) ≡ m * up e * 2 / down e
unfolding float_with_sign
doubled_small s m e t h = cut_below (fin false m e ⊕ fin false m e) (m * up e * 2) (down e) (down_pos e) (double_exact m e (same_fits s m e t) (lt_of_lt_of_le u (mul-le-mul_right (down e) (lit≤ {m = 2 ^ 64} {n = 2 ^ 1024} tt)))) u
  where
    few : (n d : ℕ) → n < 2 ^ 63 * d → n * 2 < 2 ^ 64 * d
    few n d h = omega arith

    u : m * up e * 2 < 2 ^ 64 * down e
    u = few (m * up e) (down e) h

nan_rounds : Rounds nan (doubled nan / 2 + doubled nan % 2)
unfolding lt float_with_sign add to_unsigned nearest_capped
nan_rounds = record { minus = λ q. absurd (subst T (sym q) tt); plus = λ q. refl }

inf_rounds : (s : Bool) → Rounds (inf s) (doubled (inf s) / 2 + doubled (inf s) % 2)
unfolding lt float_with_sign add to_unsigned nearest_capped
inf_rounds true = record { minus = λ q. refl; plus = λ q. absurd (subst T q tt) }
inf_rounds false = record { minus = λ q. absurd (subst T (sym q) tt); plus = λ q. refl }

rounds : (x : Float) → T (fits binary64 x) → Rounds x (doubled x / 2 + doubled x % 2)
rounds nan t = nan_rounds
rounds (inf s) t = inf_rounds s
rounds (fin s m e) t = elim (dec_le (2 ^ 63 * down e) (m * up e)) [
  | yes h ↦ subst (λ (z : ℕ). Rounds (fin s m e) (z / 2 + z % 2)) (sym (doubled_large s m e h)) (capped_rounds (fin s m e) (quotient_half_up (m * up e) (down e)) (half_big (m * up e) (down e) (down_pos e) h) (finite_rounds s m e))
  | no h ↦ subst (Rounds (fin s m e)) (half_up (m * up e) (down e) (down_pos e) ∙ ap (λ (z : ℕ). z / 2 + z % 2) (sym (doubled_small s m e t (lt_of_not-le h)))) (finite_rounds s m e)
]

-- ---- the sign put back
pub nearest_minus : (x : Float) → T (fits binary64 x) → lt x (fin false 0 (pos 0)) ≡ true → saturate_signed w64 (pos 0 -ℤ pos (doubled x / 2 + doubled x % 2)) ≡ nearest_capped x
nearest_minus x t h = let k = doubled x / 2 + doubled x % 2 in ap (saturate_signed w64) (+ℤ_idl (neg_ℤ (pos k))) ∙ capped k ∙ sym ((rounds x t).minus h)
  where
    capped : (k : ℕ) → saturate_signed w64 (neg_ℤ (pos k)) ≡ neg_ℤ (pos (min k (2 ^ 63)))
    capped zero = refl
    capped (suc k) = ap (λ (z : ℕ). neg_ℤ (pos z)) (one_more k)
      where
        one_more : (k : ℕ) → suc (min k (2 ^ 63 - 1)) ≡ min (suc k) (2 ^ 63)
        one_more k = omega arith

pub nearest_plus : (x : Float) → T (fits binary64 x) → lt x (fin false 0 (pos 0)) ≡ false → saturate_signed w64 (pos 0 +ℤ pos (doubled x / 2 + doubled x % 2)) ≡ nearest_capped x
nearest_plus x t h = ap (saturate_signed w64) (+ℤ_idl (pos (doubled x / 2 + doubled x % 2))) ∙ sym ((rounds x t).plus h)
