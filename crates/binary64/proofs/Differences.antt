-- Laws of operations rounded once, on numbers of any sign. The size of a difference grows with the distance; a difference grows with its first number
-- and falls with its second; a product grows with its factor; a difference has the sign of the order; differences, sums and products of numbers in range
-- are at most a power of two in size. Assumes nothing.
use Rattle.std.proofs.Common.{◌≡◌, ℕ, zero, suc, ◌+◌, ◌-◌, ◌*◌, ◌^◌, ◌<◌, ◌≤◌, Bool, true, false, cond, not, ◌&&◌, T, ltb, ℤ, pos, sym, refl, ap, ◌∙◌, subst, inl, inr, le_of_eq, le_refl, lt_irrefl, mul-le-mul_right, zero-lt-suc, mul_comm, eq-zero-or-pos, mul-le-mul, add_comm, mul-pos, one-mul, zero-mul, mul-one, arith, ltb→lt, lt→ltb, pow_pos, pow-add, ltb-false, ltb-true, leb-true}
use native.Mathlib.Nat.{two-pow-succ, mul-mul-mul_comm}
use lib.Pow.{pow-lt}
use lib.Ieee.{Float, nan, inf, fin, Format, binary64, prec, low, emax, up, down, odd, units, round, neg, sum, add, sub, mul, unlike, lt, le, of_bits}
use lib.Ieee.Fits.{down_pos, round_is}
use lib.Ieee.Exact.{HasValue, round_exact}
use lib.Ieee.Order.{round_mono, le_of_values}
use lib.Ieee.Positive.{num, den, den_pos, positive, positive-finite, cross→le, mul_mono}
use lib.Ieee.Scale.{finite}
use Rattle.binary64.proofs.Sizes.{within_abs, at_most_is}
use Rattle.binary64.proofs.Order.{both, first, second, is_true, holds, never, le_trans, le_total, le_refl_left, at_most_high, part, part_mul, cross, uncross}
use Rattle.binary64.specs.Constants.{zero64, tolerance9}
use Rattle.binary64.specs.Numbers.{◌⊕◌, ◌⊖◌, ◌⊗◌, at_most, abs}

-- ---- a finite x as (over x - under x) / den x, where one of the two is zero
abbrev over : Float → ℕ
over nan = 0
over (inf s) = 0
over (fin s m e) = part s (m * up e)

abbrev under : Float → ℕ
under nan = 0
under (inf s) = 0
under (fin s m e) = part (not s) (m * up e)

le→cross : (x y : Float) → T (finite x) → T (finite y) → T (le x y) → over x * den y + under y * den x ≤ over y * den x + under x * den y
unfolding le
le→cross nan y p q h = absurd p
le→cross (inf s) y p q h = absurd p
le→cross (fin s m e) nan p q h = absurd q
le→cross (fin s m e) (inf t) p q h = absurd q
le→cross (fin s m e) (fin t n d) p q h = cross s t (m * up e) (n * up d) (down e) (down d) h

chained : {a b c : ℕ} → a ≤ b → b ≤ c → a ≤ c
chained h k = omega arith

-- ---- the distance of two whole numbers
abbrev apart : ℕ → ℕ → ℕ
apart a b = a - b + (b - a)

-- ---- rounding, without its sign
abs_odd : (d : ℕ) (s : Bool) (q k l : ℕ) → abs (odd d s q k l) ≡ odd d false q k l
unfolding odd abs
abs_odd d s zero k l = refl
abs_odd d s (suc q) k l = refl

abs_cond : (b : Bool) (x y u v : Float) → abs x ≡ u → abs y ≡ v → abs (cond b x y) ≡ cond b u v
abs_cond true x y u v p q = p
abs_cond false x y u v p q = q

abs_inf : (s : Bool) → abs (inf s) ≡ inf false
unfolding abs
abs_inf s = refl

abs_units : (f : Format) (s : Bool) (q k : ℕ) → abs (units f s q k) ≡ units f false q k
unfolding units
abs_units f s q k = abs_cond (ltb (q * 2 ^ k) (2 ^ (low f + suc (emax f)))) (odd (suc (prec f)) s q k (low f)) (inf s) (odd (suc (prec f)) false q k (low f)) (inf false) (abs_odd (suc (prec f)) s q k (low f)) (abs_inf s)

abs_round : (f : Format) (s : Bool) (a c : ℕ) → abs (round f s a c) ≡ round f false a c
abs_round f s a c = ap abs (round_is f s a c) ∙ abs_units f s _ _ ∙ sym (round_is f false a c)

-- ±a / c + ±b / c
sum_size : (f : Format) (s t : Bool) (a b c : ℕ) → abs (sum f s a t b c) ≡ round f false (apart (part s a + part t b) (part (not s) a + part (not t) b)) c
unfolding sum
sum_size f true true a b c = abs_round f true (a + b) c ∙ ap (λ (z : ℕ). round f false z c) (omega arith)
sum_size f false false a b c = abs_round f false (a + b) c ∙ ap (λ (z : ℕ). round f false z c) (omega arith)
sum_size f true false a b c = go (ltb a b) refl
  where
    go : (w : Bool) → ltb a b ≡ w → abs (cond w (round f false (b - a) c) (round f (ltb b a) (a - b) c)) ≡ round f false (apart (0 + b) (a + 0)) c
    go true h = abs_round f false (b - a) c ∙ ap (λ (z : ℕ). round f false z c) (omega (arith, ltb-true a b h))
    go false h = abs_round f (ltb b a) (a - b) c ∙ ap (λ (z : ℕ). round f false z c) (omega (arith, ltb-false a b h))
sum_size f false true a b c = go (ltb a b) refl
  where
    go : (w : Bool) → ltb a b ≡ w → abs (cond w (round f true (b - a) c) (round f false (a - b) c)) ≡ round f false (apart (a + 0) (0 + b)) c
    go true h = abs_round f true (b - a) c ∙ ap (λ (z : ℕ). round f false z c) (omega (arith, ltb-true a b h))
    go false h = abs_round f false (a - b) c ∙ ap (λ (z : ℕ). round f false z c) (omega (arith, ltb-false a b h))

sub_size_at : (f : Format) (s t : Bool) (a b p q : ℕ)
    → abs (sum f s (a * q) (not t) (b * p) (p * q)) ≡ round f false (apart (part s a * q + part (not t) b * p) (part (not s) a * q + part t b * p)) (p * q)
sub_size_at f s true a b p q =
    sum_size f s false (a * q) (b * p) (p * q) ∙ ap (λ (z : ℕ). round f false (apart (z + b * p) (part (not s) (a * q) + 0)) (p * q)) (part_mul s a q)
    ∙ ap (λ (z : ℕ). round f false (apart (part s a * q + b * p) (z + 0)) (p * q)) (part_mul (not s) a q)
    ∙ ap (λ (z : ℕ). round f false (apart (part s a * q + b * p) (part (not s) a * q + z)) (p * q)) (sym (zero-mul p))
sub_size_at f s false a b p q =
    sum_size f s true (a * q) (b * p) (p * q) ∙ ap (λ (z : ℕ). round f false (apart (z + 0) (part (not s) (a * q) + b * p)) (p * q)) (part_mul s a q)
    ∙ ap (λ (z : ℕ). round f false (apart (part s a * q + 0) (z + b * p)) (p * q)) (part_mul (not s) a q)
    ∙ ap (λ (z : ℕ). round f false (apart (part s a * q + z) (part (not s) a * q + b * p)) (p * q)) (sym (zero-mul p))

-- the size of a difference is the distance, rounded
sub_size : (f : Format) (x y : Float) → T (finite x) → T (finite y)
    → abs (sub f x y) ≡ round f false (apart (over x * den y + under y * den x) (under x * den y + over y * den x)) (den x * den y)
unfolding sub
sub_size f nan y p q = absurd p
sub_size f (inf s) y p q = absurd p
sub_size f (fin s m e) nan p q = absurd q
sub_size f (fin s m e) (inf t) p q = absurd q
sub_size f (fin s m e) (fin t n d) p q = sub_size_at f s t (m * up e) (n * up d) (down e) (down d)

-- ---- and grows with the distance
sub_size_le : (x y u v : Float) → T (finite x) → T (finite y) → T (finite u) → T (finite v)
    → apart (over x * den y + under y * den x) (under x * den y + over y * den x) * (den u * den v) ≤ apart (over u * den v + under v * den u) (under u * den v + over v * den u) * (den x * den y)
    → T (le (abs (x ⊖ y)) (abs (u ⊖ v)))
sub_size_le x y u v X Y U W h =
    subst (λ (z : Float). T (le z (abs (u ⊖ v)))) (sym (sub_size binary64 x y X Y))
    (subst (λ (z : Float). T (le (round binary64 false (apart (over x * den y + under y * den x) (under x * den y + over y * den x)) (den x * den y)) z)) (sym (sub_size binary64 u v U W))
    (round_mono binary64 (apart (over x * den y + under y * den x) (under x * den y + over y * den x)) (den x * den y)
    (apart (over u * den v + under v * den u) (under u * den v + over v * den u)) (den u * den v) (mul-pos (den_pos x) (den_pos y)) (mul-pos (den_pos u) (den_pos v)) h))

-- g / (d * e) and k / (d * f) are the distances of (p - p') / d from (q - q') / e, which is below it, and from (r - r') / f, which is lower still
farther : (g k p p' q q' r r' d e f : ℕ) → g + (p' * e + q * d) ≡ p * e + q' * d → p * f + r' * d ≤ k + (p' * f + r * d) → r * e + q' * f ≤ q * f + r' * e → g * (d * f) ≤ k * (d * e)
farther g k p p' q q' r r' d e f a b c =
    let x : (g + (p' * e + q * d)) * (d * f) ≡ (p * e + q' * d) * (d * f) = ap (λ (z : ℕ). z * (d * f)) a in
    let y : (p * f + r' * d) * (d * e) ≤ (k + (p' * f + r * d)) * (d * e) = mul-le-mul_right (d * e) b in
    let z : (r * e + q' * f) * (d * d) ≤ (q * f + r' * e) * (d * d) = mul-le-mul_right (d * d) c in
    omega arith

apart_down : (a b : ℕ) → b ≤ a → apart a b + b ≡ a
apart_down a b h = omega arith

apart_up : (a b : ℕ) → a ≤ b → apart a b + a ≡ b
apart_up a b h = omega arith

apart_first : (a b : ℕ) → a ≤ apart a b + b
apart_first a b = omega arith

apart_second : (a b : ℕ) → b ≤ apart a b + a
apart_second a b = omega arith

finite_of : (k : ℕ) (x : Float) → at_most k x ≡ true → T (finite x)
unfolding at_most
finite_of k nan h = subst T (sym h) tt
finite_of k (inf s) h = subst T (sym h) tt
finite_of k (fin s m e) h = tt

-- a is at most b, which is at most x
pub farther_below : (k : ℕ) (a b x : Float) → at_most k a ≡ true → at_most k b ≡ true → at_most k x ≡ true → le a b ≡ true → le b x ≡ true → le (abs (x ⊖ b)) (abs (x ⊖ a)) ≡ true
farther_below k a b x A B X h g =
    let A = finite_of k a A in
    let B = finite_of k b B in
    let X = finite_of k x X in
    let low : over b * den x + under x * den b ≤ over x * den b + under b * den x = le→cross b x B X (holds (le b x) g) in
    let P = over x * den b + under b * den x in
    let Q = under x * den b + over b * den x in
    let P' = over x * den a + under a * den x in
    let Q' = under x * den a + over a * den x in
    is_true (le (abs (x ⊖ b)) (abs (x ⊖ a)))
    (sub_size_le x b x a X B X A
    (farther (apart P Q) (apart P' Q') (over x) (under x) (over b) (under b) (over a) (under a) (den x) (den b) (den a)
    (apart_down P Q (omega arith)) (apart_first P' Q') (le→cross a b A B (holds (le a b) h))))

-- b is at most a, and x is at most b
pub farther_above : (k : ℕ) (a b x : Float) → at_most k a ≡ true → at_most k b ≡ true → at_most k x ≡ true → le b a ≡ true → le x b ≡ true → le (abs (x ⊖ b)) (abs (x ⊖ a)) ≡ true
farther_above k a b x A B X h g =
    let A = finite_of k a A in
    let B = finite_of k b B in
    let X = finite_of k x X in
    let high : over x * den b + under b * den x ≤ over b * den x + under x * den b = le→cross x b X B (holds (le x b) g) in
    let more : over b * den a + under a * den b ≤ over a * den b + under b * den a = le→cross b a B A (holds (le b a) h) in
    let P = over x * den b + under b * den x in
    let Q = under x * den b + over b * den x in
    let P' = over x * den a + under a * den x in
    let Q' = under x * den a + over a * den x in
    is_true (le (abs (x ⊖ b)) (abs (x ⊖ a)))
    (sub_size_le x b x a X B X A
    (farther (apart P Q) (apart P' Q') (under x) (over x) (under b) (over b) (under a) (over a) (den x) (den b) (den a)
    (apart_up P Q (omega arith)) (apart_second P' Q') (omega arith)))

-- ---- a difference taken the other way round has the same size
apart_swap : (a b : ℕ) → apart a b ≡ apart b a
apart_swap a b = omega arith

pub abs_swap : (k : ℕ) (x y : Float) → at_most k x ≡ true → at_most k y ≡ true → abs (x ⊖ y) ≡ abs (y ⊖ x)
abs_swap k x y X Y =
    let X = finite_of k x X in
    let Y = finite_of k y Y in
    let P = over x * den y + under y * den x in
    let Q = under x * den y + over y * den x in
    sub_size binary64 x y X Y
    ∙ ap (λ (z : ℕ). round binary64 false z (den x * den y)) (apart_swap P Q)
    ∙ ap (λ (z : ℕ). round binary64 false (apart z P) (den x * den y)) (add_comm (under x * den y) (over y * den x))
    ∙ ap (λ (z : ℕ). round binary64 false (apart (over y * den x + under x * den y) z) (den x * den y)) (add_comm (over x * den y) (under y * den x))
    ∙ ap (λ (z : ℕ). round binary64 false (apart (over y * den x + under x * den y) (under y * den x + over x * den y)) z) (mul_comm (den x) (den y))
    ∙ sym (sub_size binary64 y x Y X)

-- ---- two numbers of at most the size l: their difference has at most the size l + l
size_cross : (x l : Float) → T (finite x) → T (finite l) → T (le (abs x) l) → (over x + under x) * den l + under l * den x ≤ over l * den x
unfolding abs
size_cross nan l p q h = absurd p
size_cross (inf s) l p q h = absurd p
size_cross (fin true m e) l p q h = omega (arith, le→cross (fin false m e) l tt q h)
size_cross (fin false m e) l p q h = omega (arith, le→cross (fin false m e) l tt q h)

finite_under : (x l : Float) → T (finite l) → T (le (abs x) l) → T (finite x)
unfolding abs le
finite_under nan l p h = h
finite_under (inf s) nan p h = h
finite_under (inf s) (inf t) p h = p
finite_under (inf s) (fin t n d) p h = h
finite_under (fin s m e) l p h = tt

double : (l : Float) → T (positive l) → l ⊕ l ≡ round binary64 false (num l * den l + num l * den l) (den l * den l)
unfolding add
double nan p = absurd p
double (inf s) p = absurd p
double (fin true m e) p = absurd p
double (fin false m e) p = refl

positive_is : (l : Float) → T (positive l) → (over l ≡ num l) × (under l ≡ 0)
positive_is nan p = absurd p
positive_is (inf s) p = absurd p
positive_is (fin true m e) p = absurd p
positive_is (fin false m e) p = (refl, refl)

reach : (p p' q q' l d e f : ℕ) → (p + p') * f ≤ l * d → (q + q') * f ≤ l * e → apart (p * e + q' * d) (p' * e + q * d) * (f * f) ≤ (l * f + l * f) * (d * e)
reach p p' q q' l d e f h k =
    let g : apart (p * e + q' * d) (p' * e + q * d) ≤ (p + p') * e + (q + q') * d = omega arith in
    let x : apart (p * e + q' * d) (p' * e + q * d) * (f * f) ≤ ((p + p') * e + (q + q') * d) * (f * f) = mul-le-mul_right (f * f) g in
    let y : (p + p') * f * (e * f) ≤ l * d * (e * f) = mul-le-mul_right (e * f) h in
    let z : (q + q') * f * (d * f) ≤ l * e * (d * f) = mul-le-mul_right (d * f) k in
    chained x (omega arith)

pub difference_most : (l x y : Float) → positive l ≡ true → le (abs x) l ≡ true → le (abs y) l ≡ true → le (abs (x ⊖ y)) (l ⊕ l) ≡ true
difference_most l x y p h k =
    let L = holds (positive l) p in
    let F = positive-finite l L in
    let X = finite_under x l F (holds (le (abs x) l) h) in
    let Y = finite_under y l F (holds (le (abs y) l) k) in
    let is = positive_is l L in
    let P = over x * den y + under y * den x in
    let Q = under x * den y + over y * den x in
    is_true (le (abs (x ⊖ y)) (l ⊕ l))
    (subst (λ (z : Float). T (le z (l ⊕ l))) (sym (sub_size binary64 x y X Y))
    (subst (λ (z : Float). T (le (round binary64 false (apart P Q) (den x * den y)) z)) (sym (double l L))
    (round_mono binary64 (apart P Q) (den x * den y) (num l * den l + num l * den l) (den l * den l) (mul-pos (den_pos x) (den_pos y)) (mul-pos (den_pos l) (den_pos l))
    (reach (over x) (under x) (over y) (under y) (num l) (den x) (den y) (den l)
    (at_most_lem x l is.0 (size_cross x l X F (holds (le (abs x) l) h))) (at_most_lem y l is.0 (size_cross y l Y F (holds (le (abs y) l) k)))))))
  where
    at_most_lem : (x l : Float) → over l ≡ num l → (over x + under x) * den l + under l * den x ≤ over l * den x → (over x + under x) * den l ≤ num l * den x
    at_most_lem x l e h = subst (λ (z : ℕ). (over x + under x) * den l ≤ z * den x) e (omega arith)

-- ---- a number of at most the size e is at most e, and at least -e
pub within_high : (d e : Float) → le (abs d) e ≡ true → le d e ≡ true
within_high d e h = first (le d e) (le (neg e) d) (sym (within_abs d e) ∙ h)

pub within_low : (d e : Float) → le (abs d) e ≡ true → le (neg e) d ≡ true
within_low d e h = second (le d e) (le (neg e) d) (sym (within_abs d e) ∙ h)

pub within_both : (d e : Float) → le (neg e) d ≡ true → le d e ≡ true → le (abs d) e ≡ true
within_both d e h k = within_abs d e ∙ both (le d e) (le (neg e) d) k h

-- ---- a product of numbers above zero grows with its second factor
not_below : (a b : ℕ) → b ≡ 0 → a < b → ⊥
not_below a b e h = omega arith

positive_under : (x l : Float) → T (positive l) → T (lt (fin false 0 (pos 0)) x) → T (le x l) → T (positive x)
unfolding lt le
positive_under nan l p z h = z
positive_under (inf true) l p z h = z
positive_under (inf false) nan p z h = h
positive_under (inf false) (inf t) p z h = p
positive_under (inf false) (fin t n d) p z h = h
positive_under (fin true m e) l p z h = z
positive_under (fin false m e) l p z h = positive_digits m (up e) (down e) z
  where
    positive_digits : (m u d : ℕ) → T (ltb (0 * 1 * d) (m * u * 1)) → T (ltb 0 m)
    positive_digits zero u d t = absurd (not_below (0 * 1 * d) (0 * u * 1) (mul-one (0 * u) ∙ zero-mul u) (ltb→lt (0 * 1 * d) (0 * u * 1) t))
    positive_digits (suc m) u d t = lt→ltb 0 (suc m) (zero-lt-suc m)

pub product_mono : (c x y : Float) → positive c ≡ true → positive y ≡ true → lt zero64 x ≡ true → le x y ≡ true → le (c ⊗ x) (c ⊗ y) ≡ true
unfolding of_bits
product_mono c x y p q z h =
    let C = holds (positive c) p in
    let Y = holds (positive y) q in
    let X = positive_under x y Y (holds (lt zero64 x) z) (holds (le x y) h) in
    is_true (le (c ⊗ x) (c ⊗ y)) (mul_mono binary64 c c x y C C X Y (cross→le c c C C (omega arith)) (holds (le x y) h))

-- ---- no step on numbers in range leaves the numbers: differences, sums and products of numbers of at most the sizes 2 ^ j and 2 ^ k
-- a power of two is itself, rounded
power_round : (m : ℕ) → m < 1024 → T (le (round binary64 false (2 ^ m) 1) (fin false 1 (pos m)))
power_round m h =
    le_of_values (round binary64 false (2 ^ m) 1) (fin false 1 (pos m)) (2 ^ m) 1 (2 ^ m) 1 (pow_pos 0) (pow_pos 0)
    (round_exact binary64 false (2 ^ m) 1 1 (m + 1074) (pow_pos 0) (pow-lt (zero-lt-suc 52)) (let l : m + 1074 < 2098 = omega arith in small (2 ^ (m + 1074)) (2 ^ 2098) (pow-lt l))
    (sym (pow-add 2 m 1074) ∙ sym (one-mul (2 ^ (m + 1074))) ∙ sym (mul-one (1 * 2 ^ (m + 1074)))))
    (refl, ap (λ (z : ℕ). z * 1) (one-mul (2 ^ m))) (le_refl (2 ^ m * 1))
  where
    small : (a b : ℕ) → a < b → 1 * a < b
    small a b h = omega arith

rounded_in : (m n d : ℕ) (z : Float) → m < 1024 → 0 < d → n ≤ 2 ^ m * d → abs z ≡ round binary64 false n d → at_most m z ≡ true
rounded_in m n d z M D h e =
    at_most_is m z ∙ ap (λ (y : Float). le y (fin false 1 (pos m))) e
    ∙ le_trans (round binary64 false n d) (round binary64 false (2 ^ m) 1) (fin false 1 (pos m))
    (is_true (le (round binary64 false n d) (round binary64 false (2 ^ m) 1)) (round_mono binary64 n d (2 ^ m) 1 D (pow_pos 0) (omega arith)))
    (is_true (le (round binary64 false (2 ^ m) 1) (fin false 1 (pos m))) (power_round m M))

size_in : (k : ℕ) (x : Float) → at_most k x ≡ true → over x + under x ≤ 2 ^ k * den x
unfolding at_most
size_in k nan h = never h
size_in k (inf s) h = never h
size_in k (fin true m e) h = omega (arith, leb-true (m * up e) (2 ^ k * down e) h)
size_in k (fin false m e) h = omega (arith, leb-true (m * up e) (2 ^ k * down e) h)

sum_reach : (p p' q q' d e t w : ℕ) → p + p' ≤ t * d → q + q' ≤ t * e → w ≡ t + t → apart (p * e + q' * d) (p' * e + q * d) ≤ w * (d * e)
sum_reach p p' q q' d e t w h k is =
    let g : apart (p * e + q' * d) (p' * e + q * d) ≤ (p + p') * e + (q + q') * d = omega arith in
    let x : (p + p') * e ≤ t * d * e = mul-le-mul_right e h in
    let y : (q + q') * d ≤ t * e * d = mul-le-mul_right d k in
    let z : w * (d * e) ≡ (t + t) * (d * e) = ap (λ (z : ℕ). z * (d * e)) is in
    chained g (omega arith)

pub difference_in : (k : ℕ) (x y : Float) → k < 1023 → at_most k x ≡ true → at_most k y ≡ true → at_most (suc k) (x ⊖ y) ≡ true
difference_in k x y K h g =
    rounded_in (suc k) (apart (over x * den y + under y * den x) (under x * den y + over y * den x)) (den x * den y) (x ⊖ y) (omega arith) (mul-pos (den_pos x) (den_pos y))
    (sum_reach (over x) (under x) (over y) (under y) (den x) (den y) (2 ^ k) (2 ^ suc k) (size_in k x h) (size_in k y g) (two-pow-succ k))
    (sub_size binary64 x y (finite_of k x h) (finite_of k y g))

-- a sum is the difference from the negated number
sum_is : (x y : Float) → x ⊕ y ≡ x ⊖ neg y
unfolding sub
sum_is x nan = refl
sum_is x (inf true) = refl
sum_is x (inf false) = refl
sum_is x (fin true n d) = refl
sum_is x (fin false n d) = refl

neg_in : (k : ℕ) (x : Float) → at_most k (neg x) ≡ at_most k x
unfolding at_most neg
neg_in k nan = refl
neg_in k (inf s) = refl
neg_in k (fin s m e) = refl

pub sum_in : (k : ℕ) (x y : Float) → k < 1023 → at_most k x ≡ true → at_most k y ≡ true → at_most (suc k) (x ⊕ y) ≡ true
sum_in k x y K h g = ap (at_most (suc k)) (sum_is x y) ∙ difference_in k x (neg y) K h (neg_in k y ∙ g)

product_size : (x y : Float) → T (finite x) → T (finite y) → abs (x ⊗ y) ≡ round binary64 false ((over x + under x) * (over y + under y)) (den x * den y)
unfolding mul
product_size nan y p q = absurd p
product_size (inf s) y p q = absurd p
product_size (fin s m e) nan p q = absurd q
product_size (fin s m e) (inf t) p q = absurd q
product_size (fin s m e) (fin t n d) p q =
    abs_round binary64 (unlike s t) (m * up e * (n * up d)) (down e * down d)
    ∙ ap (λ (z : ℕ). round binary64 false (z * (n * up d)) (down e * down d)) (sym (whole s (m * up e)))
    ∙ ap (λ (z : ℕ). round binary64 false ((part s (m * up e) + part (not s) (m * up e)) * z) (down e * down d)) (sym (whole t (n * up d)))
  where
    whole : (s : Bool) (a : ℕ) → part s a + part (not s) a ≡ a
    whole true a = omega arith
    whole false a = omega arith

pub product_in : (j k : ℕ) (x y : Float) → j + k < 1024 → at_most j x ≡ true → at_most k y ≡ true → at_most (j + k) (x ⊗ y) ≡ true
product_in j k x y K h g =
    rounded_in (j + k) ((over x + under x) * (over y + under y)) (den x * den y) (x ⊗ y) K (mul-pos (den_pos x) (den_pos y))
    (chained (mul-le-mul (size_in j x h) (size_in k y g)) (le_of_eq (mul-mul-mul_comm (2 ^ j) (den x) (2 ^ k) (den y) ∙ ap (λ (z : ℕ). z * (den x * den y)) (sym (pow-add 2 j k)))))
    (product_size x y (finite_of j x h) (finite_of k y g))

-- ---- a difference grows with its first number and falls with its second
-- the sign of what is rounded
abbrev nought : Float
nought = fin false 0 (pos 0)

plus_le : (m : ℕ) (e : ℤ) → T (le nought (fin false m e))
unfolding le
plus_le m e = uncross false false (0 * 1) (m * up e) 1 (down e) (omega arith)

minus_le : (m : ℕ) (e : ℤ) → T (le (fin true m e) nought)
unfolding le
minus_le m e = uncross true false (m * up e) (0 * 1) (down e) 1 (omega arith)

odd_plus : (d q k l : ℕ) → T (le nought (odd d false q k l))
unfolding odd
odd_plus d zero k l = plus_le 0 (pos 0)
odd_plus d (suc q) k l = plus_le _ _

odd_minus : (d q k l : ℕ) → T (le (odd d true q k l) nought)
unfolding odd
odd_minus d zero k l = minus_le 0 (pos 0)
odd_minus d (suc q) k l = minus_le _ _

units_plus : (f : Format) (q k : ℕ) → T (le nought (units f false q k))
unfolding units
units_plus f q k = go (ltb (q * 2 ^ k) (2 ^ (low f + suc (emax f))))
  where
    go : (b : Bool) → T (le nought (cond b (odd (suc (prec f)) false q k (low f)) (inf false)))
    go true = odd_plus (suc (prec f)) q k (low f)
    go false = unfold le in tt

units_minus : (f : Format) (q k : ℕ) → T (le (units f true q k) nought)
unfolding units
units_minus f q k = go (ltb (q * 2 ^ k) (2 ^ (low f + suc (emax f))))
  where
    go : (b : Bool) → T (le (cond b (odd (suc (prec f)) true q k (low f)) (inf true)) nought)
    go true = odd_minus (suc (prec f)) q k (low f)
    go false = unfold le in tt

round_plus : (f : Format) (a c : ℕ) → T (le nought (round f false a c))
round_plus f a c = subst (λ (z : Float). T (le nought z)) (sym (round_is f false a c)) (units_plus f _ _)

round_minus : (f : Format) (a c : ℕ) → T (le (round f true a c) nought)
round_minus f a c = subst (λ (z : Float). T (le z nought)) (sym (round_is f true a c)) (units_minus f _ _)

-- a fraction that is zero
zero_both : (z : Float) (s : Bool) (c : ℕ) → 0 < c → HasValue z s 0 c → T (le z nought) × T (le nought z)
unfolding le
zero_both nan s c C h = absurd h
zero_both (inf t) s c C h = absurd h
zero_both (fin u m e) s c C h =
    let z = none (m * up e) (down e) h.1 in (
      uncross u false (m * up e) (0 * 1) (down e) 1 (omega (arith, least u (m * up e) z)),
      uncross false u (0 * 1) (m * up e) 1 (down e) (omega (arith, least (not u) (m * up e) z, mul_zero' (part (not u) (m * up e)) (least (not u) (m * up e) z))),
    )
  where
    none : (a d : ℕ) → a * c ≡ 0 * d → a ≡ 0
    none a d h = elim (eq-zero-or-pos a) [ inl z ↦ z | inr p ↦ absurd (lt_irrefl 0 (subst (λ (k : ℕ). 0 < k) (h ∙ zero-mul d) (mul-pos p C))) ]

    least : (u : Bool) (a : ℕ) → a ≡ 0 → part u a ≡ 0
    least true a z = refl
    least false a z = z

    mul_zero' : (a : ℕ) → a ≡ 0 → a * 1 ≡ 0
    mul_zero' a z = omega arith

round_zero : (f : Format) (s : Bool) (n c : ℕ) → 0 < c → n ≡ 0 → T (le (round f s n c) nought) × T (le nought (round f s n c))
round_zero f s n c C e =
    zero_both (round f s n c) s c C
    (subst (λ (k : ℕ). HasValue (round f s k c) s 0 c) (sym e)
    (round_exact f s 0 c 0 0 C (pow_pos (prec f)) (pow_pos (low f + suc (emax f))) (zero-mul (2 ^ low f) ∙ sym (zero-mul c))))

sum_plus : (f : Format) (s t : Bool) (a b c : ℕ) → 0 < c → part (not s) a + part (not t) b ≤ part s a + part t b → T (le nought (sum f s a t b c))
unfolding sum
sum_plus f false false a b c C h = round_plus f (a + b) c
sum_plus f true true a b c C h = (round_zero f true (a + b) c C (omega arith)).1
sum_plus f true false a b c C h = go (ltb a b) refl
  where
    go : (w : Bool) → ltb a b ≡ w → T (le nought (cond w (round f false (b - a) c) (round f (ltb b a) (a - b) c)))
    go true e = round_plus f (b - a) c
    go false e = (round_zero f (ltb b a) (a - b) c C (omega arith)).1
sum_plus f false true a b c C h = go (ltb a b) refl
  where
    go : (w : Bool) → ltb a b ≡ w → T (le nought (cond w (round f true (b - a) c) (round f false (a - b) c)))
    go true e = (round_zero f true (b - a) c C (omega arith)).1
    go false e = round_plus f (a - b) c

sum_minus : (f : Format) (s t : Bool) (a b c : ℕ) → 0 < c → part s a + part t b ≤ part (not s) a + part (not t) b → T (le (sum f s a t b c) nought)
unfolding sum
sum_minus f false false a b c C h = (round_zero f false (a + b) c C (omega arith)).0
sum_minus f true true a b c C h = round_minus f (a + b) c
sum_minus f true false a b c C h = go (ltb a b) (ltb b a) refl refl
  where
    go : (w v : Bool) → ltb a b ≡ w → ltb b a ≡ v → T (le (cond w (round f false (b - a) c) (round f v (a - b) c)) nought)
    go true v e g = (round_zero f false (b - a) c C (omega arith)).0
    go false true e g = round_minus f (a - b) c
    go false false e g = (round_zero f false (a - b) c C (omega (arith, ltb-false b a g))).0
sum_minus f false true a b c C h = go (ltb a b) refl
  where
    go : (w : Bool) → ltb a b ≡ w → T (le (cond w (round f true (b - a) c) (round f false (a - b) c)) nought)
    go true e = round_minus f (b - a) c
    go false e = (round_zero f false (a - b) c C (omega arith)).0

sub_plus_at : (f : Format) (s t : Bool) (a b p q : ℕ) → 0 < p * q → part t b * p + part (not s) a * q ≤ part s a * q + part (not t) b * p → T (le nought (sum f s (a * q) (not t) (b * p) (p * q)))
sub_plus_at f s true a b p q C h = sum_plus f s false (a * q) (b * p) (p * q) C (omega (arith, part_mul s a q, part_mul (not s) a q))
sub_plus_at f s false a b p q C h = sum_plus f s true (a * q) (b * p) (p * q) C (omega (arith, part_mul s a q, part_mul (not s) a q))

sub_minus_at : (f : Format) (s t : Bool) (a b p q : ℕ) → 0 < p * q → part s a * q + part (not t) b * p ≤ part t b * p + part (not s) a * q → T (le (sum f s (a * q) (not t) (b * p) (p * q)) nought)
sub_minus_at f s true a b p q C h = sum_minus f s false (a * q) (b * p) (p * q) C (omega (arith, part_mul s a q, part_mul (not s) a q))
sub_minus_at f s false a b p q C h = sum_minus f s true (a * q) (b * p) (p * q) C (omega (arith, part_mul s a q, part_mul (not s) a q))

difference_plus : (x y : Float) → T (finite x) → T (finite y) → T (le y x) → T (le nought (x ⊖ y))
unfolding sub
difference_plus nan y p q h = absurd p
difference_plus (inf s) y p q h = absurd p
difference_plus (fin s m e) nan p q h = absurd q
difference_plus (fin s m e) (inf t) p q h = absurd q
difference_plus (fin s m e) (fin t n d) p q h =
    sub_plus_at binary64 s t (m * up e) (n * up d) (down e) (down d) (mul-pos (down_pos e) (down_pos d)) (le→cross (fin t n d) (fin s m e) tt tt h)

difference_minus : (x y : Float) → T (finite x) → T (finite y) → T (le x y) → T (le (x ⊖ y) nought)
unfolding sub
difference_minus nan y p q h = absurd p
difference_minus (inf s) y p q h = absurd p
difference_minus (fin s m e) nan p q h = absurd q
difference_minus (fin s m e) (inf t) p q h = absurd q
difference_minus (fin s m e) (fin t n d) p q h =
    sub_minus_at binary64 s t (m * up e) (n * up d) (down e) (down d) (mul-pos (down_pos e) (down_pos d)) (le→cross (fin s m e) (fin t n d) tt tt h)

-- the difference of numbers in range has the sign of their order
pub difference_above : (k : ℕ) (x y : Float) → at_most k x ≡ true → at_most k y ≡ true → le y x ≡ true → le (fin false 0 (pos 0)) (x ⊖ y) ≡ true
difference_above k x y X Y h = is_true (le nought (x ⊖ y)) (difference_plus x y (finite_of k x X) (finite_of k y Y) (holds (le y x) h))

pub difference_below : (k : ℕ) (x y : Float) → at_most k x ≡ true → at_most k y ≡ true → le x y ≡ true → le (x ⊖ y) (fin false 0 (pos 0)) ≡ true
difference_below k x y X Y h = is_true (le (x ⊖ y) nought) (difference_minus x y (finite_of k x X) (finite_of k y Y) (holds (le x y) h))

vanished : (a d : ℕ) → a ≡ 0 → a * d + a * d ≤ 0 * d + 0 * d
vanished a d z = subst (λ (x : ℕ). x * d + x * d ≤ 0 * d + 0 * d) (sym z) (le_refl (0 * d + 0 * d))

below_none : (a d : ℕ) → 0 * 1 * d + a * 1 ≤ 0 * 1 + 0 * d → a ≡ 0
below_none a d h = omega arith

above_none : (a d : ℕ) → a * 1 + 0 * d ≤ 0 * 1 * d + 0 * 1 → a ≡ 0
above_none a d h = omega arith

-- a number that is not below zero is its size, and one that is not above zero its size negated
abs_plus : (d : Float) → T (le nought d) → T (le (abs d) d)
unfolding abs le
abs_plus nan h = h
abs_plus (inf true) h = h
abs_plus (inf false) h = tt
abs_plus (fin true m e) h = uncross false true (m * up e) (m * up e) (down e) (down e) (vanished (m * up e) (down e) (below_none (m * up e) (down e) (cross false true (0 * 1) (m * up e) 1 (down e) h)))
abs_plus (fin false m e) h = uncross false false (m * up e) (m * up e) (down e) (down e) (omega arith)

abs_minus : (d : Float) → T (le d nought) → T (le d (neg (abs d)))
unfolding abs neg le
abs_minus nan h = h
abs_minus (inf true) h = tt
abs_minus (inf false) h = h
abs_minus (fin true m e) h = uncross true true (m * up e) (m * up e) (down e) (down e) (omega arith)
abs_minus (fin false m e) h = uncross false true (m * up e) (m * up e) (down e) (down e) (vanished (m * up e) (down e) (above_none (m * up e) (down e) (cross false false (m * up e) (0 * 1) (down e) 1 h)))

-- of a difference that is not below zero, or not above it, one comparison tells whether its size is at most e
none_left : (a d : ℕ) → a ≡ 0 → 0 * 1 * d + a * 1 ≤ 0 * 1 + 0 * d
none_left a d z = omega arith

neg_minus : (e : Float) → T (le (neg e) nought) → T (le nought e)
unfolding neg le
neg_minus nan h = h
neg_minus (inf true) h = h
neg_minus (inf false) h = tt
neg_minus (fin true m e) h = uncross false true (0 * 1) (m * up e) 1 (down e) (none_left (m * up e) (down e) (above_none (m * up e) (down e) (cross false false (m * up e) (0 * 1) (down e) 1 h)))
neg_minus (fin false m e) h = plus_le m e

pub within_above : (d e : Float) → le (fin false 0 (pos 0)) d ≡ true → le (abs d) e ≡ le d e
within_above d e h = within_abs d e ∙ go (le d e) refl
  where
    go : (b : Bool) → le d e ≡ b → (b && le (neg e) d) ≡ b
    go true p = within_low d e (le_trans (abs d) d e (is_true (le (abs d) d) (abs_plus d (holds (le nought d) h))) p)
    go false p = refl

pub within_under : (d e : Float) → le d (fin false 0 (pos 0)) ≡ true → le (abs d) e ≡ le (neg e) d
within_under d e h = within_abs d e ∙ go (le (neg e) d) refl
  where
    go : (b : Bool) → le (neg e) d ≡ b → (le d e && b) ≡ b
    go true p = both (le d e) true (le_trans d nought e h (is_true (le nought e) (neg_minus e (holds (le (neg e) nought) (le_trans (neg e) d nought p h))))) refl
    go false p = and_none (le d e)
      where
        and_none : (a : Bool) → (a && false) ≡ false
        and_none true = refl
        and_none false = refl

pub difference_mono : (k : ℕ) (a b c d : Float) → at_most k a ≡ true → at_most k b ≡ true → at_most k c ≡ true → at_most k d ≡ true → le a c ≡ true → le d b ≡ true → le (a ⊖ b) (c ⊖ d) ≡ true
difference_mono k a b c d A B C D h g = go (le b a) (le d c) refl refl
  where
    number : (x : Float) → at_most k x ≡ true → le x x ≡ true
    number x X = le_refl_left x (fin false 1 (pos k)) (at_most_high k x X)

    go : (p q : Bool) → le b a ≡ p → le d c ≡ q → le (a ⊖ b) (c ⊖ d) ≡ true
    go true q u w =
        let r : le d c ≡ true = le_trans d b c g (le_trans b a c u h) in
        let x : le (abs (a ⊖ b)) (abs (c ⊖ b)) ≡ true = ap (λ (z : Float). le z (abs (c ⊖ b))) (abs_swap k a b A B) ∙ ap (le (abs (b ⊖ a))) (abs_swap k c b C B) ∙ farther_above k c a b C A B h u in
        let y : le (abs (c ⊖ b)) (abs (c ⊖ d)) ≡ true = farther_below k d b c D B C g (le_trans b a c u h) in
        le_trans (a ⊖ b) (abs (c ⊖ d)) (c ⊖ d) (within_high (a ⊖ b) (abs (c ⊖ d)) (le_trans (abs (a ⊖ b)) (abs (c ⊖ b)) (abs (c ⊖ d)) x y))
        (is_true (le (abs (c ⊖ d)) (c ⊖ d)) (abs_plus (c ⊖ d) (difference_plus c d (finite_of k c C) (finite_of k d D) (holds (le d c) r))))
    go false true u w =
        le_trans (a ⊖ b) nought (c ⊖ d)
        (is_true (le (a ⊖ b) nought) (difference_minus a b (finite_of k a A) (finite_of k b B) (holds (le a b) (le_total b a (number b B) (number a A) u))))
        (is_true (le nought (c ⊖ d)) (difference_plus c d (finite_of k c C) (finite_of k d D) (holds (le d c) w)))
    go false false u w =
        let r : le c d ≡ true = le_total d c (number d D) (number c C) w in
        let x : le (abs (c ⊖ d)) (abs (c ⊖ b)) ≡ true = farther_above k b d c B D C g r in
        let y : le (abs (c ⊖ b)) (abs (a ⊖ b)) ≡ true = ap (λ (z : Float). le z (abs (a ⊖ b))) (abs_swap k c b C B) ∙ ap (le (abs (b ⊖ c))) (abs_swap k a b A B) ∙ farther_below k a c b A C B h (le_trans c d b r g) in
        le_trans (a ⊖ b) (neg (abs (a ⊖ b))) (c ⊖ d)
        (is_true (le (a ⊖ b) (neg (abs (a ⊖ b)))) (abs_minus (a ⊖ b) (difference_minus a b (finite_of k a A) (finite_of k b B) (holds (le a b) (le_total b a (number b B) (number a A) u)))))
        (within_low (c ⊖ d) (abs (a ⊖ b)) (le_trans (abs (c ⊖ d)) (abs (c ⊖ b)) (abs (a ⊖ b)) x y))

-- ---- a number l above zero and at most 2 ^ 20, whose double is above zero too: a limit of sizes; two of them, and the tolerance
pub record Limit (l : Float) : Type 0 where
  pub above : positive l ≡ true
  pub twice_above : positive (l ⊕ l) ≡ true
  pub zero_below : le zero64 (l ⊕ l) ≡ true
  pub small : le l (fin false 1 (pos 20)) ≡ true

pub one_limit : Limit (of_bits binary64 0x3ff0_0000_0000_0000)
unfolding of_bits add le
one_limit = record { above = refl; twice_above = refl; zero_below = refl; small = refl }

pub coordinate_limit : Limit (of_bits binary64 0x4130_0000_0000_0000)
unfolding of_bits add le
coordinate_limit = record { above = refl; twice_above = refl; zero_below = refl; small = refl }

pub tolerance_above : positive tolerance9 ≡ true
unfolding of_bits
tolerance_above = refl
