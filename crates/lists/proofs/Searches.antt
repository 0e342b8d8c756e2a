-- A loop that looks for the first place at which a test holds. Its invariant: `Searched test n i`, that none was found before place i.
-- Assumes nothing.
use mathlib.Core.Path.{◌≡◌, refl, sym, ap, ◌∙◌}
use mathlib.Core.Bool.{Bool, true, false, cond, true≢false}
use mathlib.Core.Logic.{⊎_elim}
use Rattle.std.specs.Prelude.{Option, Some, None}
use Prim.Native.Nat.{ℕ, zero, suc, ◌+◌, ◌-◌, ◌<◌, ◌≤◌}
use native.Mathlib.Nat.{eq-or-lt_of_le}
use native.Mathlib.Omega.{arith}
use Rattle.lists.specs.Lists.{all_below, first}
use Rattle.lists.proofs.Scans.{all_from, all_fails}

-- of n places, the first at which the test holds is the first from place i on
pub record Searched (test : ℕ → Bool) (n i : ℕ) : Type 0 where
  pub same : first test n 0 ≡ first test (n - i) i

module _ (test : ℕ → Bool) (n : ℕ) where
  pub search_start : Searched test n 0
  search_start = record { same = let e : n ≡ n - 0 = omega arith in ap (λ (k : ℕ). first test k 0) e }

  -- the test holds at place i
  pub search_found : (i : ℕ) → Searched test n i → i < n → test i ≡ true → first test n 0 ≡ Some i
  unfolding first
  search_found i s l h = let e : n - i ≡ suc (n - (i + 1)) = omega arith in s.same ∙ rw (e, h)

  -- it does not
  pub search_more : (i : ℕ) → Searched test n i → i < n → test i ≡ false → Searched test n (i + 1)
  unfolding first
  search_more i s l h = record { same = s.same ∙ (let e : n - i ≡ suc (n - (i + 1)) = omega arith in rw (e, h)) }

  -- all places are passed
  pub search_end : (i : ℕ) → Searched test n i → n ≤ i → first test n 0 ≡ None
  unfolding first
  search_end i s l = s.same ∙ (let e : n - i ≡ 0 = omega arith in rw e)

-- the place found is one of those searched
pub first_below : (test : ℕ → Bool) (n i k : ℕ) → first test n i ≡ Some k → k < i + n
unfolding first
first_below test zero i k e = let z : ◌≡◌ {A = ℕ} 0 1 = cc in absurd (omega arith)
first_below test (suc n) i k e = at (test i) e (first_below test n (i + 1) k)
  where
    at : (b : Bool) → cond b (Some i) (first test n (i + 1)) ≡ Some k → (first test n (i + 1) ≡ Some k → k < i + 1 + n) → k < i + suc n
    at true e later = let z : i ≡ k = cc in omega arith
    at false e later = omega (arith, later e)

-- j is the first of the n places from i on at which the test holds
pub record First (test : ℕ → Bool) (n i j : ℕ) : Type 0 where
  pub from : i ≤ j
  pub below : j < i + n
  pub holds : test j ≡ true
  pub earlier : (l : ℕ) → i ≤ l → l < j → test l ≡ false

pub first_is : (test : ℕ → Bool) (n i j : ℕ) → first test n i ≡ Some j → First test n i j
unfolding first
first_is test zero i j e = let z : ◌≡◌ {A = ℕ} 0 1 = cc in absurd (omega arith)
first_is test (suc n) i j e = at (test i) refl e (first_is test n (i + 1) j)
  where
    at : (b : Bool) → test i ≡ b → cond b (Some i) (first test n (i + 1)) ≡ Some j → (first test n (i + 1) ≡ Some j → First test n (i + 1) j) → First test (suc n) i j
    at true t e later =
        let h : i ≡ j = cc in
        record { from = omega arith; below = omega arith; holds = ap test (sym h) ∙ t; earlier = λ l p q. absurd (omega arith) }
    at false t e later =
        let r = later e in
        record {
          from = omega arith;
          below = omega arith;
          holds = r.holds;
          earlier = λ l p q. ⊎_elim (λ (h : i ≡ l). ap test (sym h) ∙ t) (λ h. r.earlier l (omega arith) q) (eq-or-lt_of_le p);
        }

-- a search that finds none passes no place
pub first_none : (test : ℕ → Bool) (n i : ℕ) → first test n i ≡ None → (l : ℕ) → i ≤ l → l < i + n → test l ≡ false
unfolding first
first_none test zero i e l h g = absurd (omega arith)
first_none test (suc n) i e l h g = step (test i) refl e (first_none test n (i + 1))
  where
    step : (b : Bool) → test i ≡ b → cond b (Some i) (first test n (i + 1)) ≡ None
        → (first test n (i + 1) ≡ None → (l : ℕ) → i + 1 ≤ l → l < i + 1 + n → test l ≡ false) → test l ≡ false
    step true t e later = let z : ◌≡◌ {A = ℕ} 0 1 = cc in absurd (omega arith)
    step false t e later = ⊎_elim (λ (is : i ≡ l). ap test (sym is) ∙ t) (λ k. later e l (omega arith) (omega arith)) (eq-or-lt_of_le h)

-- a search finds something where some place passes
pub first_some : (test : ℕ → Bool) (n k : ℕ) → k < n → test k ≡ true → (j : ℕ) × (first test n 0 ≡ Some j) × First test n 0 j
first_some test n k l h = step (first test n 0) refl
  where
    step : (o : Option ℕ) → first test n 0 ≡ o → (j : ℕ) × (first test n 0 ≡ Some j) × First test n 0 j
    step None e = absurd (true≢false (sym h ∙ first_none test n 0 e k (omega arith) (omega arith)))
    step (Some j) e = (j, e, first_is test n 0 j e)

-- tests that agree find the same
pub first_same : (p q : ℕ → Bool) (n i : ℕ) → ((l : ℕ) → i ≤ l → l < i + n → p l ≡ q l) → first p n i ≡ first q n i
unfolding first
first_same p q zero i each = refl
first_same p q (suc n) i each = rw (each i (omega arith) (omega arith), first_same p q n (i + 1) (λ l h g. each l (omega arith) (omega arith)))

-- ---- what an iterator's `all` and `position` answer, as r

module _ (test : ℕ → Bool) (n : ℕ) where
  pub all_answers : (r : Bool) → (r ≡ true → (i : ℕ) → i < n → test i ≡ true) → (r ≡ false → (i : ℕ) × (i < n) × (test i ≡ false)) → r ≡ all_below n test
  all_answers true p q = sym (all_from test n (p refl))
  all_answers false p q = let f = q refl in sym (all_fails test n f.0 f.1 f.2)

-- the first place at which the test holds is the first of the places from i on
first_at : (test : ℕ → Bool) (n i j : ℕ) → i ≤ j → j < i + n → test j ≡ true → ((l : ℕ) → i ≤ l → l < j → test l ≡ false) → first test n i ≡ Some j
unfolding first
first_at test zero i j p q t e = absurd (omega arith)
first_at test (suc n) i j p q t e =
    ⊎_elim
    (λ (h : i ≡ j). rw (ap test h ∙ t) (ap Some h))
    (λ (h : i < j). rw (e i (omega arith) h) (first_at test n (i + 1) j (omega arith) (omega arith) t (λ l a b. e l (omega arith) b)))
    (eq-or-lt_of_le p)

first_nowhere : (test : ℕ → Bool) (n i : ℕ) → ((l : ℕ) → i ≤ l → l < i + n → test l ≡ false) → first test n i ≡ None
unfolding first
first_nowhere test zero i e = refl
first_nowhere test (suc n) i e = rw (e i (omega arith) (omega arith)) (first_nowhere test n (i + 1) (λ l a b. e l (omega arith) (omega arith)))

pub first_answers : (test : ℕ → Bool) (n : ℕ) (r : Option ℕ) → (r ≡ None → (i : ℕ) → i < n → test i ≡ false) → ((j : ℕ) → r ≡ Some j → (j < n) × (test j ≡ true) × ((i : ℕ) → i < j → test i ≡ false)) → r ≡ first test n 0
first_answers test n None p q = sym (first_nowhere test n 0 (λ l a b. p refl l (omega arith)))
first_answers test n (Some j) p q = let f = q j refl in sym (first_at test n 0 j (omega arith) (omega (arith, f.0)) f.1 (λ l a b. f.2 l b))
