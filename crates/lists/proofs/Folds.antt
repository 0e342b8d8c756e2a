-- A loop that carries a state from place to place. Its invariant: the state is `fold_below i step start`. Assumes nothing.
use mathlib.Core.Path.{◌≡◌, refl, sym, ap, ◌∙◌}
use Prim.Native.Nat.{ℕ, zero, suc, ◌+◌, ◌-◌, ◌≤◌, ◌<◌}
use native.Mathlib.Nat.{add-zero, add-suc, eq-or-lt_of_le}
use native.Mathlib.Numerals.{add-one}
use native.Mathlib.Omega.{arith}
use mathlib.Core.Logic.{inl, inr}
use Rattle.lists.specs.Answer.{Answer, refused, given, fold_answer}
use Rattle.lists.specs.Lists.{fold_below}
use Rattle.lists.proofs.Answers.{passed_then}

module _ {S : Type 0} (step : S → ℕ → S) (start : S) where
  -- where the loop begins
  pub fold_start : start ≡ fold_below 0 step start
  unfolding fold_below
  fold_start = refl

  -- a turn at place i
  pub fold_more : (i : ℕ) {state next : S} → state ≡ fold_below i step start → next ≡ step state i → next ≡ fold_below (i + 1) step start
  unfolding fold_below
  fold_more i {state} e is = is ∙ ap (λ (s : S). step s i) e ∙ ap (λ (k : ℕ). fold_below k step start) (sym (add-one i))

  -- where it ends, with i equal to n
  pub fold_end : {i n : ℕ} {state : S} → state ≡ fold_below i step start → i ≡ n → state ≡ fold_below n step start
  fold_end e h = e ∙ ap (λ (k : ℕ). fold_below k step start) h

-- ---- a loop that stops at the first place that is refused. Its invariant: the state is given by `fold_answer i step start`.

module _ {S : Type 0} (step : S → ℕ → Answer S) (start : S) where
  pub steps_start : given start ≡ fold_answer 0 step start
  unfolding fold_answer
  steps_start = refl

  next : (i : ℕ) {state : S} {a : Answer S} → given state ≡ fold_answer i step start → a ≡ step state i → a ≡ fold_answer (i + 1) step start
  unfolding fold_answer
  next i e is = rw (add-one, ← e) is

  -- a turn at place i
  pub steps_more : (i : ℕ) {state new : S} → given state ≡ fold_answer i step start → given new ≡ step state i → given new ≡ fold_answer (i + 1) step start
  steps_more i e is = next i e is

  stays : (i k : ℕ) {n : ℕ} → refused n ≡ fold_answer i step start → refused n ≡ fold_answer (i + k) step start
  unfolding fold_answer
  stays i zero e = rw (add-zero i) e
  stays i (suc k) e = rw (add-suc i k, ← stays i k e)

  -- place i is refused, whatever comes after
  pub steps_stop : (i m : ℕ) {state : S} {n : ℕ} → i < m → given state ≡ fold_answer i step start → refused n ≡ step state i → refused n ≡ fold_answer m step start
  steps_stop i m h e is =
      let d : i + 1 + (m - (i + 1)) ≡ m = omega arith in
      stays (i + 1) (m - (i + 1)) (next i e is) ∙ ap (λ (k : ℕ). fold_answer k step start) d

  -- where it ends, with i equal to n
  pub steps_end : {i n : ℕ} {a : Answer S} → a ≡ fold_answer i step start → i ≡ n → a ≡ fold_answer n step start
  steps_end e h = e ∙ ap (λ (k : ℕ). fold_answer k step start) h

  -- a fold that gives something has been given something at every place
  pub steps_passed : (n : ℕ) {s : S} → fold_answer n step start ≡ given s → (i : ℕ) → i < n → (a : S) × (b : S) × (step a i ≡ given b)
  unfolding fold_answer
  steps_passed zero e i h = absurd (omega arith)
  steps_passed (suc n) {s} e i h =
      let p : (a : S) × (fold_answer n step start ≡ given a) × (step a n ≡ given s) = passed_then (fold_answer n step start) (λ (a : S). step a n) e in
      let l : i ≤ n = omega arith in
      elim (eq-or-lt_of_le l) [
        | inl g ↦ (p.0, s, ap (step p.0) g ∙ p.2)
        | inr g ↦ steps_passed n p.1 i g
      ]
