-- `find`, `all` and `any` over the places below n. Assumes nothing.
use Rattle.std.proofs.Common.{◌≡◌, ◌∙◌, sym, ap, subst, ℕ, ◌<◌, ◌≤◌, Bool, true, false, Option, Some, None, length, get_or, arith}
use Rattle.std.specs.Option.{MatchOption}
use Rattle.std.specs.Bool.{MatchBool}
use Rattle.std.specs.List.{range_with_len, AllWithin, HoldsAt}
use Rattle.std.proofs.lemmas.List.FromFn.{length-range_with_len, get_or-range_with_len}
use Rattle.lists.specs.Lists.{first, all_below, any_below}
use Rattle.lists.proofs.Scans.{any_holds, any_nowhere}
use Rattle.lists.proofs.Searches.{first_answers, all_answers}

-- the first place at which the test holds
pub found_is : (test : ℕ → Bool) (n : ℕ) (r : Option ℕ)
    → MatchOption r ((k : ℕ) → 0 ≤ k → k < n → test k ≡ false) (λ i. (0 ≤ i) × (i < n) × (test i ≡ true) × ((k : ℕ) → 0 ≤ k → k < i → test k ≡ false))
    → r ≡ first test n 0
found_is test n None h = first_answers test n None (λ _ i l. h i (omega arith) l) (λ j e. let z : ◌≡◌ {A = ℕ} 0 1 = cc in absurd (omega arith))
found_is test n (Some i) h =
    first_answers test n (Some i)
    (λ e. let z : ◌≡◌ {A = ℕ} 0 1 = cc in absurd (omega arith))
    (λ j e. let s : i ≡ j = cc in (omega (arith, h.1), ap test (sym s) ∙ h.2, λ k l. h.3 k (omega arith) (omega arith)))

place : (n i : ℕ) → i < n → get_or (range_with_len 0 n) i 0 ≡ i
place n i l = omega (arith, get_or-range_with_len 0 n i 0 l)

-- whether it holds at each of them
pub all_is : (test : ℕ → Bool) (n : ℕ) (r : Bool)
    → MatchBool r (AllWithin (λ k. test k ≡ true) (range_with_len 0 n) 0 (length (range_with_len 0 n))) ((k : ℕ) × (k < length (range_with_len 0 n)) × HoldsAt (λ i. test i ≡ false) (range_with_len 0 n) k)
    → r ≡ all_below n test
all_is test n true h =
    all_answers test n true
    (λ _ i l. subst (λ k. test k ≡ true) (place n i l) (h i 0 (omega arith) (omega (arith, length-range_with_len 0 n))))
    (λ e. let z : ◌≡◌ {A = ℕ} 0 1 = cc in absurd (omega arith))
all_is test n false h =
    let l : h.0 < n = omega (arith, length-range_with_len 0 n, h.1) in
    all_answers test n false
    (λ e. let z : ◌≡◌ {A = ℕ} 0 1 = cc in absurd (omega arith))
    (λ _. (h.0, l, subst (λ k. test k ≡ false) (place n h.0 l) (h.2 0)))

-- whether it holds at one of them
pub any_is : (test : ℕ → Bool) (n : ℕ) (r : Bool)
    → MatchBool r ((k : ℕ) × (k < length (range_with_len 0 n)) × HoldsAt (λ i. test i ≡ true) (range_with_len 0 n) k) (AllWithin (λ k. test k ≡ false) (range_with_len 0 n) 0 (length (range_with_len 0 n)))
    → r ≡ any_below n test
any_is test n true h =
    let l : h.0 < n = omega (arith, length-range_with_len 0 n, h.1) in
    sym (any_holds test n h.0 l (subst (λ k. test k ≡ true) (place n h.0 l) (h.2 0)))
any_is test n false h = sym (any_nowhere test n (λ i l. subst (λ k. test k ≡ false) (place n i l) (h i 0 (omega arith) (omega (arith, length-range_with_len 0 n)))))
