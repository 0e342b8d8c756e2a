-- Laws of `abs` and `at_most`: the comparisons by which a program works each out. Assumes nothing.
use Rattle.std.proofs.Common.{◌≡◌, ℕ, zero, suc, ◌+◌, ◌*◌, ◌^◌, ◌<◌, ◌≤◌, Bool, true, false, not, ◌&&◌, ◌||◌, T, eqb, ltb, leb, ℤ, pos, sym, refl, ap, ◌∙◌, subst, inl, inr, le_of_eq, le_of_lt, lt_irrefl, zero-lt-suc, eq-zero-or-pos, eq-or-lt_of_le, mul-pos, one-mul, zero-mul, mul-one, arith, le→leb, eqb→eq, ltb→lt, lt→ltb, leb→le, ltb-false, ltb-true}
use mathlib.Core.Bool.{beq}
use lib.Dec.{eqb_refl}
use lib.Ieee.{Float, nan, inf, fin, binary64, up, down, neg, lt, le, eq, below, level, of_bits, fits}
use lib.Ieee.Fits.{up_pos, and_l, and_r}
use Rattle.std.specs.Float.{float_with_sign}
use Rattle.binary64.proofs.Values.{same_test, zero_exponent}
use Rattle.binary64.specs.Numbers.{at_most, abs}

-- ---- tests
or_l : (a b : Bool) → T a → T (a || b)
or_l true b t = tt
or_l false b t = absurd t

or_r : (a b : Bool) → T b → T (a || b)
or_r true b t = tt
or_r false b t = t

and_both : (a b : Bool) → T a → T b → T (a && b)
and_both true b s t = t
and_both false b s t = absurd s

-- a test that holds where another does adds nothing to it
and_after : (p q : Bool) → (T p → T q) → p ≡ (p && q)
and_after true true f = refl
and_after true false f = absurd (f tt)
and_after false q f = refl

and_before : (p q : Bool) → (T q → T p) → q ≡ (p && q)
and_before true q f = refl
and_before false true f = absurd (f tt)
and_before false false f = refl

same_eqb : (a b : ℕ) → a ≡ b → T (eqb a b)
same_eqb a b e = subst (λ (x : ℕ). T (eqb a x)) e (eqb_refl a)

swap_eqb : (a b : ℕ) → eqb b a ≡ eqb a b
swap_eqb a b = same_test (eqb b a) (eqb a b) (λ t. same_eqb a b (sym (eqb→eq b a t))) (λ t. same_eqb b a (sym (eqb→eq a b t)))

-- ---- comparisons of sizes, as `le` works them out
le_or : (a b : ℕ) (u : Bool) → T (ltb a b || (eqb a b && u)) → a ≤ b
le_or a b u t = go (ltb a b) (eqb a b) (ltb→lt a b) (eqb→eq a b) t
  where
    go : (p q : Bool) → (T p → a < b) → (T q → a ≡ b) → T (p || (q && u)) → a ≤ b
    go true q f g t = le_of_lt (f tt)
    go false true f g t = le_of_eq (g tt)
    go false false f g t = absurd t

or_level : (a b c d : ℕ) → a ≡ b → T (ltb c d || (eqb a b && true))
or_level a b c d e = or_r (ltb c d) (eqb a b && true) (and_both (eqb a b) true (same_eqb a b e) tt)

-- `<` or `==` is ≤
pub le_form : (a b : ℕ) → (ltb a b || (eqb a b && true)) ≡ leb a b
le_form a b = same_test (ltb a b || (eqb a b && true)) (leb a b) (λ t. le→leb a b (le_or a b true t))
    (λ t. elim (eq-or-lt_of_le (leb→le a b t)) [ inl e ↦ or_level a b a b e | inr l ↦ or_l (ltb a b) (eqb a b && true) (lt→ltb a b l) ])

-- -a is at most b
minus_plus : (a b : ℕ) → T (ltb 0 (a + b) || (eqb a b && eqb a 0))
minus_plus a b = elim (eq-zero-or-pos (a + b)) [
  | inl z ↦ or_r (ltb 0 (a + b)) (eqb a b && eqb a 0) (and_both (eqb a b) (eqb a 0) (same_eqb a b (omega arith)) (same_eqb a 0 (omega arith)))
  | inr p ↦ or_l (ltb 0 (a + b)) (eqb a b && eqb a 0) (lt→ltb 0 (a + b) p)
]

-- a is at most -b: both are zero
zeros : (a b : ℕ) → T (eqb a b && eqb a 0) → T (eqb b a && eqb b 0)
zeros a b t =
    let e = eqb→eq a b (and_l (eqb a b) (eqb a 0) t) in
    let z = eqb→eq a 0 (and_r (eqb a b) (eqb a 0) t) in
    and_both (eqb b a) (eqb b 0) (same_eqb b a (sym e)) (same_eqb b 0 (sym e ∙ z))

level_within : (s t : Bool) (a b : ℕ) → (below false a t b || level false a t b) ≡ ((below s a t b || level s a t b) && (below (not t) b s a || level (not t) b s a))
level_within false false a b = and_after (ltb a b || (eqb a b && true)) (ltb 0 (b + a) || (eqb b a && eqb b 0)) (λ t. minus_plus b a)
level_within true false a b =
    ap (λ (z : Bool). ltb a b || (z && true)) (sym (swap_eqb a b))
    ∙ and_before (ltb 0 (a + b) || (eqb a b && eqb a 0)) (ltb a b || (eqb b a && true)) (λ t. minus_plus a b)
level_within false true a b = and_after (eqb a b && eqb a 0) (ltb b a || (eqb b a && true)) (λ t. or_level b a b a (sym (eqb→eq a b (and_l (eqb a b) (eqb a 0) t))))
level_within true true a b =
    same_test (eqb a b && eqb a 0) (eqb b a && eqb b 0) (zeros a b) (zeros b a)
    ∙ and_before (ltb b a || (eqb a b && true)) (eqb b a && eqb b 0) (λ t. or_level a b b a (sym (eqb→eq b a (and_l (eqb b a) (eqb b 0) t))))

below_within : (s t : Bool) (a b : ℕ) → below false a t b ≡ (below s a t b && below (not t) b s a)
below_within false false a b = and_after (ltb a b) (ltb 0 (b + a)) (λ t. let h = ltb→lt a b t in lt→ltb 0 (b + a) (omega arith))
below_within true false a b = and_before (ltb 0 (a + b)) (ltb a b) (λ t. let h = ltb→lt a b t in lt→ltb 0 (a + b) (omega arith))
below_within false true a b = refl
below_within true true a b = and_before (ltb b a) false (λ t. absurd t)

-- ---- a size within e, or below it: the number is between -e and e
between : (d e : Float) → (le (abs d) e ≡ (le d e && le (neg e) d)) × (lt (abs d) e ≡ (lt d e && lt (neg e) d))
unfolding abs neg le lt
between nan e = (refl, refl)
between (inf true) nan = (refl, refl)
between (inf false) nan = (refl, refl)
between (inf true) (inf true) = (refl, refl)
between (inf true) (inf false) = (refl, refl)
between (inf false) (inf true) = (refl, refl)
between (inf false) (inf false) = (refl, refl)
between (inf true) (fin t n g) = (refl, refl)
between (inf false) (fin t n g) = (refl, refl)
between (fin s m e) nan = (refl, refl)
between (fin s m e) (inf true) = (refl, refl)
between (fin s m e) (inf false) = (refl, refl)
between (fin s m e) (fin t n g) = (level_within s t (m * up e * down g) (n * up g * down e), below_within s t (m * up e * down g) (n * up g * down e))

pub within_abs : (d e : Float) → le (abs d) e ≡ (le d e && le (neg e) d)
within_abs d e = (between d e).0

pub below_abs : (d e : Float) → lt (abs d) e ≡ (lt d e && lt (neg e) d)
below_abs d e = (between d e).1

-- ---- size at most 2 ^ k
pub at_most_is : (k : ℕ) (x : Float) → at_most k x ≡ le (abs x) (fin false 1 (pos k))
unfolding at_most abs le
at_most_is k nan = refl
at_most_is k (inf s) = refl
at_most_is k (fin s m e) = sym (le_form (m * up e * 1) (1 * 2 ^ k * down e) ∙ ap (λ (z : ℕ). leb z (1 * 2 ^ k * down e)) (mul-one (m * up e)) ∙ ap (λ (z : ℕ). leb (m * up e) (z * down e)) (one-mul (2 ^ k)))

-- 2 ^ 20 by its bits
pub coordinate_is : (x : Float) → le (abs x) (of_bits binary64 0x4130_0000_0000_0000) ≡ at_most 20 x
unfolding of_bits
coordinate_is x = sym (at_most_is 20 x)

-- ---- compared with zero
pub plus_not_below : (m : ℕ) (e : ℤ) → lt (fin false m e) (fin false 0 (pos 0)) ≡ true → ⊥
unfolding lt
plus_not_below m e h = none (m * up e * 1) (0 * 1 * down e) (zero-mul (down e)) (ltb-true (m * up e * 1) (0 * 1 * down e) h)
  where
    none : (n z : ℕ) → z ≡ 0 → n < z → ⊥
    none n z e h = omega arith

pub minus_not_above : (m : ℕ) (e : ℤ) → lt (fin true m e) (fin false 0 (pos 0)) ≡ false → m * up e ≡ 0
unfolding lt
minus_not_above m e h = none (m * up e) (0 * 1 * down e) (ltb-false 0 (m * up e * 1 + 0 * 1 * down e) h)
  where
    none : (n z : ℕ) → n * 1 + z ≤ 0 → n ≡ 0
    none n z h = omega arith

pub is_zero : (s : Bool) (m : ℕ) (e : ℤ) → m * up e ≡ 0 → eq (fin s m e) (fin false 0 (pos 0)) ≡ true
unfolding eq
is_zero s m e h =
    ap (λ (z : ℕ). eqb (z * 1) (0 * 1 * down e) && (beq s false || eqb (z * 1) 0)) h
    ∙ ap (λ (z : ℕ). eqb 0 z && (beq s false || true)) (zero-mul (down e))
    ∙ any (beq s false)
  where
    any : (b : Bool) → (b || true) ≡ true
    any true = refl
    any false = refl

pub zero_digits : (s : Bool) (m : ℕ) (e : ℤ) → eq (fin s m e) (fin false 0 (pos 0)) ≡ true → m ≡ 0
unfolding eq
zero_digits s m e h =
    let A = m * up e * 1 in
    let B = 0 * 1 * down e in
    first m (up e) (up_pos e) (eqb→eq A B (and_l (eqb A B) (beq s false || eqb A 0) (subst T (sym h) tt)) ∙ zero-mul (down e))
  where
    first : (m u : ℕ) → 0 < u → m * u * 1 ≡ 0 → m ≡ 0
    first zero u U h = refl
    first (suc m) u U h = absurd (lt_irrefl 0 (subst (λ (z : ℕ). 0 < z) (sym (mul-one (suc m * u)) ∙ h) (mul-pos (zero-lt-suc m) U)))

-- below zero, or a zero
pub minus_either : (m : ℕ) (e : ℤ) → lt (fin true m e) (fin false 0 (pos 0)) ≡ false → eq (fin true m e) (fin false 0 (pos 0)) ≡ false → ⊥
minus_either m e h k = subst T (sym (is_zero true m e (minus_not_above m e h)) ∙ k) tt

-- ---- the size of x: by whether x is below zero, or is a zero
pub abs_below : (x : Float) → lt x (fin false 0 (pos 0)) ≡ true → abs x ≡ neg x
unfolding abs neg lt
abs_below nan h = refl
abs_below (inf true) h = refl
abs_below (inf false) h = absurd (subst T (sym h) tt)
abs_below (fin true m e) h = refl
abs_below (fin false m e) h = absurd (plus_not_below m e h)

pub abs_zero : (x : Float) → T (fits binary64 x) → eq x (fin false 0 (pos 0)) ≡ true → abs x ≡ fin false 0 (pos 0)
unfolding abs eq
abs_zero nan t h = absurd (subst T (sym h) tt)
abs_zero (inf s) t h = absurd (subst T (sym h) tt)
abs_zero (fin s m e) t h =
    let z = zero_digits s m e h in
    ap (λ (k : ℕ). fin false k e) z ∙ ap (λ (g : ℤ). fin false 0 g) (zero_exponent s e (subst (λ (k : ℕ). T (fits binary64 (fin s k e))) z t))

pub abs_above : (x : Float) → lt x (fin false 0 (pos 0)) ≡ false → eq x (fin false 0 (pos 0)) ≡ false → abs x ≡ x
unfolding abs lt
abs_above nan h k = refl
abs_above (inf true) h k = absurd (subst T h tt)
abs_above (inf false) h k = refl
abs_above (fin false m e) h k = refl
abs_above (fin true m e) h k = absurd (minus_either m e h k)

-- ---- std's size of x
pub abs_is : (x : Float) → float_with_sign false x ≡ abs x
unfolding abs float_with_sign
abs_is nan = refl
abs_is (inf s) = refl
abs_is (fin s m e) = refl
