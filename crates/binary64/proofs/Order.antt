-- Laws of the order of all binary64 values, not-a-number and infinities included: what `<=` and `<` say of each other, transitivity, and `at_most` as an
-- interval. Assumes nothing.
use Rattle.std.proofs.Common.{◌≡◌, ℕ, ◌+◌, ◌*◌, ◌<◌, ◌≤◌, Bool, true, false, not, ◌&&◌, ◌||◌, T, eqb, ltb, leb, pos, sym, refl, ap, ◌∙◌, subst, mul-le-mul_right, zero-mul, le_of_mul-le-mul_right, arith, le→leb, eqb→eq, ltb→lt, lt→ltb, leb→le, le-leb, leb-false}
use lib.Dec.{eqb_refl, not_T, nleb→lt}
use lib.Ieee.{Float, neg, nan, inf, fin, up, down, lt, eq, le, below, level}
use lib.Ieee.Fits.{down_pos}
use borrow.Author.Tests.{not-true}
use Rattle.binary64.proofs.Values.{same_test}
use Rattle.binary64.proofs.Sizes.{at_most_is, within_abs}
use Rattle.binary64.specs.Numbers.{at_most}

-- ---- tests
pub both : (p q : Bool) → p ≡ true → q ≡ true → (p && q) ≡ true
both true q h k = k
both false q h k = h

pub first : (p q : Bool) → (p && q) ≡ true → p ≡ true
first true q h = refl
first false q h = h

pub second : (p q : Bool) → (p && q) ≡ true → q ≡ true
second true q h = h
second false q h = absurd (subst T (sym h) tt)

not_both : (p q : Bool) → q ≡ true → (p && not q) ≡ false
not_both true q h = ap not h
not_both false q h = refl

-- a test from which a false one would follow is false
refuted : (p q : Bool) → (p ≡ true → q ≡ true) → q ≡ false → p ≡ false
refuted true q f h = sym (f refl) ∙ h
refuted false q f h = refl

pub is_true : (b : Bool) → T b → b ≡ true
is_true true t = refl
is_true false t = absurd t

pub holds : (b : Bool) → b ≡ true → T b
holds b h = subst T (sym h) tt

eq→eqb : (a b : ℕ) → a ≡ b → T (eqb a b)
eq→eqb a b e = subst (λ (x : ℕ). T (eqb a x)) e (eqb_refl a)

and_test : (p u r : Bool) → (T p → T u → T r) → (T r → T p) → (T r → T u) → (p && u) ≡ r
and_test true u r f g h = same_test u r (f tt) h
and_test false u r f g h = same_test false r absurd g

-- ---- ±A and ±B compare as two sums of sizes do: what is negative is moved to the other side
abbrev pub part : Bool → ℕ → ℕ
part false n = n
part true n = 0

abbrev side : Bool → ℕ → Bool → ℕ → ℕ
side s a t b = part s a + part (not t) b

below_is : (s t : Bool) (a b : ℕ) → below s a t b ≡ ltb (side s a t b) (side t b s a)
below_is false false a b = same_test (ltb a b) (ltb (a + 0) (b + 0)) (omega (arith, ltb→lt, lt→ltb)) (omega (arith, ltb→lt, lt→ltb))
below_is false true a b = same_test false (ltb (a + b) (0 + 0)) absurd (λ t. omega (arith, ltb→lt (a + b) (0 + 0) t))
below_is true false a b = same_test (ltb 0 (a + b)) (ltb (0 + 0) (b + a)) (omega (arith, ltb→lt, lt→ltb)) (omega (arith, ltb→lt, lt→ltb))
below_is true true a b = same_test (ltb b a) (ltb (0 + b) (0 + a)) (omega (arith, ltb→lt, lt→ltb)) (omega (arith, ltb→lt, lt→ltb))

level_is : (s t : Bool) (a b : ℕ) → level s a t b ≡ eqb (side s a t b) (side t b s a)
level_is false false a b = and_test (eqb a b) true (eqb (a + 0) (b + 0)) (omega (arith, eqb→eq, eq→eqb)) (omega (arith, eqb→eq, eq→eqb)) (λ t. tt)
level_is false true a b = and_test (eqb a b) (eqb a 0) (eqb (a + b) (0 + 0)) (omega (arith, eqb→eq, eq→eqb)) (omega (arith, eqb→eq, eq→eqb)) (omega (arith, eqb→eq, eq→eqb))
level_is true false a b = and_test (eqb a b) (eqb a 0) (eqb (0 + 0) (b + a)) (omega (arith, eqb→eq, eq→eqb)) (omega (arith, eqb→eq, eq→eqb)) (omega (arith, eqb→eq, eq→eqb))
level_is true true a b = and_test (eqb a b) true (eqb (0 + b) (0 + a)) (omega (arith, eqb→eq, eq→eqb)) (omega (arith, eqb→eq, eq→eqb)) (λ t. tt)

most_is : (a b : ℕ) → (ltb a b || eqb a b) ≡ leb a b
most_is a b = go (ltb a b) (eqb a b) (leb a b) (omega (arith, ltb→lt, le→leb)) (omega (arith, eqb→eq, le→leb))
    (λ f g t.
    let n : a ≡ b → ⊥ = λ e. g (eq→eqb a b e) in
    f (lt→ltb a b (omega (arith, leb→le a b t))))
  where
    go : (p q r : Bool) → (T p → T r) → (T q → T r) → ((T p → ⊥) → (T q → ⊥) → T r → ⊥) → (p || q) ≡ r
    go true q r f g h = same_test true r f (λ t. tt)
    go false true r f g h = same_test true r g (λ t. tt)
    go false false r f g h = same_test false r absurd (h (λ t. t) (λ t. t))

strict_is : (a b : ℕ) → ltb a b ≡ (leb a b && not (leb b a))
strict_is a b =
    sym (and_test (leb a b) (not (leb b a)) (ltb a b) (λ t u. lt→ltb a b (nleb→lt b a u)) (omega (arith, ltb→lt, le→leb)) (λ t. not_T (leb b a) (λ u. omega (arith, ltb→lt a b t, leb→le b a u))))

-- ---- two finite values, by the cross products of their fractions
le_finite : (s t : Bool) (a b : ℕ) → (below s a t b || level s a t b) ≡ leb (side s a t b) (side t b s a)
le_finite s t a b = ap (λ (x : Bool). x || level s a t b) (below_is s t a b) ∙ ap (λ (x : Bool). ltb (side s a t b) (side t b s a) || x) (level_is s t a b) ∙ most_is (side s a t b) (side t b s a)

lt_finite : (s t : Bool) (a b : ℕ) → below s a t b ≡ ((below s a t b || level s a t b) && not (below t b s a || level t b s a))
lt_finite s t a b =
    below_is s t a b ∙ strict_is (side s a t b) (side t b s a)
    ∙ sym (ap (λ (x : Bool). x && not (below t b s a || level t b s a)) (le_finite s t a b) ∙ ap (λ (x : Bool). leb (side s a t b) (side t b s a) && not x) (le_finite t s b a))

pub part_mul : (s : Bool) (a q : ℕ) → part s (a * q) ≡ part s a * q
part_mul false a q = refl
part_mul true a q = sym (zero-mul q)

-- three fractions, each a difference over a denominator: (x - x') / p ≤ (y - y') / q ≤ (z - z') / r
chain : (x x' y y' z z' p q r : ℕ) → 0 < q → x * q + y' * p ≤ y * p + x' * q → y * r + z' * q ≤ z * q + y' * r → x * r + z' * p ≤ z * p + x' * r
chain x x' y y' z z' p q r Q h k =
    let f : (x * q + y' * p) * r ≤ (y * p + x' * q) * r = mul-le-mul_right r h in
    let g : (y * r + z' * q) * p ≤ (z * q + y' * r) * p = mul-le-mul_right p k in
    let n : (x * r + z' * p) * q ≤ (z * p + x' * r) * q = omega arith in
    le_of_mul-le-mul_right n Q

-- ±a / p at most ±b / q, as sums of products of sizes, and back
pub cross : (s t : Bool) (a b p q : ℕ) → T (below s (a * q) t (b * p) || level s (a * q) t (b * p)) → part s a * q + part (not t) b * p ≤ part t b * p + part (not s) a * q
cross s t a b p q h =
    omega (arith, part_mul s a q, part_mul (not s) a q, part_mul t b p, part_mul (not t) b p, leb→le (side s (a * q) t (b * p)) (side t (b * p) s (a * q)) (subst T (le_finite s t (a * q) (b * p)) h))

pub uncross : (s t : Bool) (a b p q : ℕ) → part s a * q + part (not t) b * p ≤ part t b * p + part (not s) a * q → T (below s (a * q) t (b * p) || level s (a * q) t (b * p))
uncross s t a b p q h =
    subst T (sym (le_finite s t (a * q) (b * p)))
    (le→leb (side s (a * q) t (b * p)) (side t (b * p) s (a * q)) (omega (arith, part_mul s a q, part_mul (not s) a q, part_mul t b p, part_mul (not t) b p)))

le_trans_finite : (s t u : Bool) (a b c p q r : ℕ) → 0 < q → T (below s (a * q) t (b * p) || level s (a * q) t (b * p)) → T (below t (b * r) u (c * q) || level t (b * r) u (c * q)) → T (below s (a * r) u (c * p) || level s (a * r) u (c * p))
le_trans_finite s t u a b c p q r Q h k =
    uncross s u a c p r (chain (part s a) (part (not s) a) (part t b) (part (not t) b) (part u c) (part (not u) c) p q r Q (cross s t a b p q h) (cross t u b c q r k))

-- ---- all values
-- nothing is at most a not-a-number
le_nan : (x : Float) → T (le x nan) → ⊥
unfolding le
le_nan nan h = h
le_nan (inf s) h = h
le_nan (fin s m e) h = h

nan_le : (y : Float) → le nan y ≡ false
unfolding le
nan_le y = refl

trans : (x y z : Float) → T (le x y) → T (le y z) → T (le x z)
unfolding le
trans nan y z h k = absurd h
trans (inf true) y nan h k = absurd (le_nan y k)
trans (inf true) y (inf true) h k = tt
trans (inf true) y (inf false) h k = tt
trans (inf true) y (fin u l g) h k = tt
trans (inf false) nan z h k = absurd h
trans (inf false) (inf true) z h k = absurd h
trans (inf false) (inf false) z h k = k
trans (inf false) (fin t n d) z h k = absurd h
trans (fin s m e) nan z h k = absurd h
trans (fin s m e) (inf true) z h k = absurd h
trans (fin s m e) (inf false) nan h k = absurd k
trans (fin s m e) (inf false) (inf true) h k = absurd k
trans (fin s m e) (inf false) (inf false) h k = tt
trans (fin s m e) (inf false) (fin u l g) h k = absurd k
trans (fin s m e) (fin t n d) nan h k = absurd k
trans (fin s m e) (fin t n d) (inf true) h k = absurd k
trans (fin s m e) (fin t n d) (inf false) h k = tt
trans (fin s m e) (fin t n d) (fin u l g) h k = le_trans_finite s t u (m * up e) (n * up d) (l * up g) (down e) (down d) (down g) (down_pos d) h k

-- below is at most, and not the other way round
lt_is : (a b : Float) → lt a b ≡ (le a b && not (le b a))
unfolding le
lt_is nan b = refl
lt_is (inf s) nan = refl
lt_is (inf true) (inf true) = refl
lt_is (inf true) (inf false) = refl
lt_is (inf false) (inf true) = refl
lt_is (inf false) (inf false) = refl
lt_is (inf true) (fin t n d) = refl
lt_is (inf false) (fin t n d) = refl
lt_is (fin s m e) nan = refl
lt_is (fin s m e) (inf true) = refl
lt_is (fin s m e) (inf false) = refl
lt_is (fin s m e) (fin t n d) = lt_finite s t (m * up e * down d) (n * up d * down e)

-- of two finite values one is at most the other
total_finite : (s t : Bool) (a b : ℕ) → (below s a t b || level s a t b) ≡ false → (below t b s a || level t b s a) ≡ true
total_finite s t a b h = le_finite t s b a ∙ over (side s a t b) (side t b s a) (sym (le_finite s t a b) ∙ h)
  where
    over : (x y : ℕ) → leb x y ≡ false → leb y x ≡ true
    over x y e = le-leb y x (omega (arith, leb-false x y e))

pub never : {X : Type 0} → false ≡ true → X
never e = absurd (holds false e)

le_self : (x : Float) → (x ≡ nan → ⊥) → T (le x x)
unfolding le
le_self nan h = absurd (h refl)
le_self (inf true) h = tt
le_self (inf false) h = tt
le_self (fin s m e) h = uncross s s (m * up e) (m * up e) (down e) (down e) (omega arith)

-- ---- the laws
pub le_trans : (a b c : Float) → le a b ≡ true → le b c ≡ true → le a c ≡ true
le_trans a b c h k = is_true (le a c) (trans a b c (holds (le a b) h) (holds (le b c) k))

pub le_not_lt : (a b : Float) → le a b ≡ true → lt b a ≡ false
le_not_lt a b h = lt_is b a ∙ not_both (le b a) (le a b) h

pub lt_not_le : (a b : Float) → lt a b ≡ true → le b a ≡ false
lt_not_le a b h = not-true (le b a) (second (le a b) (not (le b a)) (sym (lt_is a b) ∙ h))

pub lt_le : (a b : Float) → lt a b ≡ true → le a b ≡ true
lt_le a b h = first (le a b) (not (le b a)) (sym (lt_is a b) ∙ h)

-- at most, and not the other way round: below
strict : (a b : Float) → le a b ≡ true → le b a ≡ false → lt a b ≡ true
strict a b h k = lt_is a b ∙ both (le a b) (not (le b a)) h (ap not k)

pub lt_le_trans : (a b c : Float) → lt a b ≡ true → le b c ≡ true → lt a c ≡ true
lt_le_trans a b c h k = strict a c (le_trans a b c (lt_le a b h) k) (refuted (le c a) (le b a) (le_trans b c a k) (lt_not_le a b h))

pub le_lt_trans : (a b c : Float) → le a b ≡ true → lt b c ≡ true → lt a c ≡ true
le_lt_trans a b c h k = strict a c (le_trans a b c h (lt_le b c k)) (refuted (le c a) (le c b) (λ e. le_trans c a b e h) (lt_not_le b c k))

pub lt_trans : (a b c : Float) → lt a b ≡ true → lt b c ≡ true → lt a c ≡ true
lt_trans a b c h k = lt_le_trans a b c h (lt_le b c k)

-- `le x x` holds of all but not-a-number: of what is at most something, or has something at most it
pub le_refl_left : (x y : Float) → le x y ≡ true → le x x ≡ true
le_refl_left x y h = is_true (le x x) (le_self x (λ e. never (sym (ap (λ (z : Float). le z y) e ∙ nan_le y) ∙ h)))

pub le_refl_right : (x y : Float) → le x y ≡ true → le y y ≡ true
le_refl_right x y h = is_true (le y y) (le_self y (λ e. le_nan x (holds (le x nan) (sym (ap (le x) e) ∙ h))))

pub number_or_nan : (x : Float) → (x ≡ nan → ⊥) → le x x ≡ true
number_or_nan x h = is_true (le x x) (le_self x h)

-- such a value lies between the infinities
pub le_infinity : (x : Float) → le x x ≡ true → le x (inf false) ≡ true
unfolding le
le_infinity nan h = h
le_infinity (inf true) h = refl
le_infinity (inf false) h = refl
le_infinity (fin s m e) h = refl

pub infinity_le : (x : Float) → le x x ≡ true → le (inf true) x ≡ true
unfolding le
infinity_le nan h = h
infinity_le (inf true) h = refl
infinity_le (inf false) h = refl
infinity_le (fin s m e) h = refl

-- of two such values one is at most the other
pub le_total : (x y : Float) → le x x ≡ true → le y y ≡ true → le x y ≡ false → le y x ≡ true
unfolding le
le_total nan y p q h = never p
le_total (inf s) nan p q h = never q
le_total (inf true) (inf true) p q h = refl
le_total (inf true) (inf false) p q h = never (sym h)
le_total (inf false) (inf true) p q h = refl
le_total (inf false) (inf false) p q h = refl
le_total (inf true) (fin t n d) p q h = never (sym h)
le_total (inf false) (fin t n d) p q h = refl
le_total (fin s m e) nan p q h = never q
le_total (fin s m e) (inf true) p q h = refl
le_total (fin s m e) (inf false) p q h = never (sym h)
le_total (fin s m e) (fin t n d) p q h = total_finite s t (m * up e * down d) (n * up d * down e) h

pub not_lt_le : (x y : Float) → le x x ≡ true → le y y ≡ true → lt x y ≡ false → le y x ≡ true
not_lt_le x y p q h = go (le x y) (le y x) refl refl (sym (lt_is x y) ∙ h)
  where
    go : (b c : Bool) → le x y ≡ b → le y x ≡ c → (b && not c) ≡ false → le y x ≡ true
    go true true f g k = g
    go true false f g k = never (sym k)
    go false c f g k = le_total x y p q f

pub not_le_lt : (x y : Float) → le x x ≡ true → le y y ≡ true → le x y ≡ false → lt y x ≡ true
not_le_lt x y p q h = strict y x (le_total x y p q h) h

-- of two equal values each is at most the other
pub eq_le : (x y : Float) → eq x y ≡ true → le x y ≡ true
unfolding le
eq_le x y h = go (lt x y) (eq x y) h
  where
    go : (p q : Bool) → q ≡ true → (p || q) ≡ true
    go true q e = refl
    go false q e = e

pub eq_ge : (x y : Float) → eq x y ≡ true → le y x ≡ true
unfolding le
eq_ge nan y h = never h
eq_ge (inf s) nan h = never h
eq_ge (inf true) (inf true) h = refl
eq_ge (inf true) (inf false) h = never h
eq_ge (inf false) (inf true) h = never h
eq_ge (inf false) (inf false) h = refl
eq_ge (inf s) (fin t n d) h = never h
eq_ge (fin s m e) nan h = never h
eq_ge (fin s m e) (inf t) h = never h
eq_ge (fin s m e) (fin t n d) h = go (m * up e * down d) (n * up d * down e) h
  where
    go : (a b : ℕ) → level s a t b ≡ true → (below t b s a || level t b s a) ≡ true
    go a b h =
        le_finite t s b a
        ∙ le-leb (side t b s a) (side s a t b) (omega (arith, eqb→eq (side s a t b) (side t b s a) (holds (eqb (side s a t b) (side t b s a)) (sym (level_is s t a b) ∙ h))))

-- ---- at most 2 ^ k in size: from -2 ^ k to 2 ^ k
at_most_sides : (k : ℕ) (x : Float) → at_most k x ≡ (le x (fin false 1 (pos k)) && le (fin true 1 (pos k)) x)
unfolding neg
at_most_sides k x = at_most_is k x ∙ within_abs x (fin false 1 (pos k))

pub at_most_low : (k : ℕ) (x : Float) → at_most k x ≡ true → le (fin true 1 (pos k)) x ≡ true
at_most_low k x h = second (le x (fin false 1 (pos k))) (le (fin true 1 (pos k)) x) (sym (at_most_sides k x) ∙ h)

pub at_most_high : (k : ℕ) (x : Float) → at_most k x ≡ true → le x (fin false 1 (pos k)) ≡ true
at_most_high k x h = first (le x (fin false 1 (pos k))) (le (fin true 1 (pos k)) x) (sym (at_most_sides k x) ∙ h)

-- so it is above minus infinity
pub at_most_above : (k : ℕ) (x : Float) → at_most k x ≡ true → le x (inf true) ≡ false
unfolding at_most le
at_most_above k nan h = never h
at_most_above k (inf s) h = never h
at_most_above k (fin s m e) h = refl
