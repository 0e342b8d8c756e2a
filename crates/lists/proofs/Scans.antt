-- A loop that tests place after place: it goes on while the test holds, or notes whether it ever held.
-- The invariant of the first is `all_below i test ≡ true`, of the second `seen ≡ any_below i test`. Assumes nothing.
use mathlib.Core.Path.{◌≡◌, refl, sym, ap, ◌∙◌}
use mathlib.Core.Bool.{Bool, true, false, ◌&&◌, ◌||◌, true≢false}
use mathlib.Core.Logic.{◌⊎◌, ⊎_elim}
use Prim.Native.Nat.{ℕ, zero, suc, ◌+◌, ◌<◌}
use native.Mathlib.Nat.{eq-or-lt_of_le, le_of_suc-le-suc}
use native.Mathlib.Numerals.{add-one}
use native.Mathlib.Omega.{arith}
use Rattle.lists.specs.Lists.{all_below, any_below}

pub and_false : (p : Bool) → (p && false) ≡ false
and_false true = refl
and_false false = refl

or_true : (p : Bool) → (p || true) ≡ true
or_true true = refl
or_true false = refl

-- what && tells
pub both : (p q : Bool) → (p && q) ≡ true → (p ≡ true) × (q ≡ true)
both true true e = (refl, refl)
both true false e = (refl, e)
both false q e = let z : ◌≡◌ {A = Bool} false true = e in (e, cc)

-- i is below n, or is n
upto : {i n : ℕ} → i < suc n → (i ≡ n) ⊎ (i < n)
upto h = eq-or-lt_of_le (le_of_suc-le-suc h)

module _ (test : ℕ → Bool) where
  -- ---- every place

  pub all_start : all_below 0 test ≡ true
  unfolding all_below
  all_start = refl

  pub all_more : (i : ℕ) → all_below i test ≡ true → test i ≡ true → all_below (i + 1) test ≡ true
  unfolding all_below
  all_more i e h = rw (add-one i, e, h)

  -- the same where the loop goes on and notes it
  pub all_noted : (i : ℕ) {seen now : Bool} → seen ≡ all_below i test → now ≡ (seen && test i) → now ≡ all_below (i + 1) test
  unfolding all_below
  all_noted i e is = rw (add-one i, is, e)

  -- the test fails at a place
  pub all_fails : (n : ℕ) (i : ℕ) → i < n → test i ≡ false → all_below n test ≡ false
  unfolding all_below
  all_fails zero i l h = absurd (omega arith)
  all_fails (suc n) i l h =
      ⊎_elim
      (λ e. ap (λ (b : Bool). all_below n test && b) (ap test (sym e) ∙ h) ∙ and_false (all_below n test))
      (λ k. ap (λ (b : Bool). b && test n) (all_fails n i k h))
      (upto l)

  -- what holds at every place holds at each
  pub all_at : (n : ℕ) → all_below n test ≡ true → (i : ℕ) → i < n → test i ≡ true
  unfolding all_below
  all_at zero e i l = absurd (omega arith)
  all_at (suc n) e i l =
      let parts = both (all_below n test) (test n) e in
      ⊎_elim (λ is. ap test is ∙ parts.1) (λ k. all_at n parts.0 i k) (upto l)

  -- and from each place to all
  pub all_from : (n : ℕ) → ((i : ℕ) → i < n → test i ≡ true) → all_below n test ≡ true
  unfolding all_below
  all_from zero each = refl
  all_from (suc n) each = rw (all_from n (λ i l. each i (omega arith)), each n (omega arith))

  -- ---- some place

  pub any_start : false ≡ any_below 0 test
  unfolding any_below
  any_start = refl

  pub any_more : (i : ℕ) {seen now : Bool} → seen ≡ any_below i test → now ≡ (seen || test i) → now ≡ any_below (i + 1) test
  unfolding any_below
  any_more i e is = rw (add-one i, is, e)

  -- the same where the loop stops at the first place that passes
  pub any_none : (i : ℕ) → any_below i test ≡ false → test i ≡ false → any_below (i + 1) test ≡ false
  unfolding any_below
  any_none i e h = rw (add-one i, e, h)

  -- the test holds at a place
  pub any_holds : (n : ℕ) (i : ℕ) → i < n → test i ≡ true → any_below n test ≡ true
  unfolding any_below
  any_holds zero i l h = absurd (omega arith)
  any_holds (suc n) i l h =
      ⊎_elim
      (λ e. ap (λ (b : Bool). any_below n test || b) (ap test (sym e) ∙ h) ∙ or_true (any_below n test))
      (λ k. ap (λ (b : Bool). b || test n) (any_holds n i k h))
      (upto l)

-- tests that agree at each place agree over all
pub all_same : (p q : ℕ → Bool) (n : ℕ) → ((i : ℕ) → i < n → p i ≡ q i) → all_below n p ≡ all_below n q
unfolding all_below
all_same p q zero each = refl
all_same p q (suc n) each = rw (all_same p q n (λ i l. each i (omega arith)), each n (omega arith))

pub any_same : (p q : ℕ → Bool) (n : ℕ) → ((i : ℕ) → i < n → p i ≡ q i) → any_below n p ≡ any_below n q
unfolding any_below
any_same p q zero each = refl
any_same p q (suc n) each = rw (any_same p q n (λ i l. each i (omega arith)), each n (omega arith))

-- no place passes
pub any_nowhere : (test : ℕ → Bool) (n : ℕ) → ((i : ℕ) → i < n → test i ≡ false) → any_below n test ≡ false
unfolding any_below
any_nowhere test zero each = refl
any_nowhere test (suc n) each = rw (any_nowhere test n (λ i h. each i (omega arith)), each n (omega arith))

-- some place passes
pub any_some : (test : ℕ → Bool) (n : ℕ) → any_below n test ≡ true → (i : ℕ) × (i < n) × (test i ≡ true)
unfolding any_below
any_some test zero e = absurd (true≢false (sym e))
any_some test (suc n) e = step (any_below n test) refl e (any_some test n)
  where
    step : (b : Bool) → any_below n test ≡ b → (b || test n) ≡ true → (any_below n test ≡ true → (i : ℕ) × (i < n) × (test i ≡ true)) → (i : ℕ) × (i < suc n) × (test i ≡ true)
    step true f e before = let s = before f in (s.0, omega (arith, s.1), s.2)
    step false f e before = (n, omega arith, e)

-- three tests noted one after the other
pub three_noted : (fine a b c : Bool) → (fine && a && b && c) ≡ (fine && (a && b && c))
three_noted true a b c = refl
three_noted false a b c = refl
