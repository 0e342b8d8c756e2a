-- Lists and the places in them, over any type of element. A place counts from 0.
use Rattle.std.specs.Prelude.{ℕ, zero, suc, ◌+◌, ◌-◌, ◌<◌, Bool, true, false, ◌&&◌, ◌||◌, cond, List, [], ◌∷◌, ◌++◌, map, ltb, length, take, drop, get_or, Option, Some, None}

-- ---- what a loop writes

module _ {A : Type 0} where
  -- the list l with the run new in it from place at on; what is before and past the run is kept
  unfoldable pub put : List A → ℕ → List A → List A
  put l at new = take at l ++ new ++ drop (at + length new) l

  -- f 0, then f 1, and so on: n runs, one after the other
  unfoldable pub runs : ℕ → (ℕ → List A) → List A
  runs zero f = []
  runs (suc n) f = runs n f ++ f n

  -- f 0, f 1, and so on: n elements
  unfoldable pub elems : ℕ → (ℕ → A) → List A
  unfolding runs
  elems n f = runs n (λ i. f i ∷ [])

  -- the count entries of l from place start on
  abbrev pub part : ℕ → ℕ → List A → List A
  part start count l = take count (drop start l)

  -- the entries of l at the places ks; other is given for a place past the end
  abbrev pub gather : A → List A → List ℕ → List A
  gather other l ks = map (λ k. get_or l k other) ks

  -- the entries that pass a test, in their order
  abbrev pub passing : (A → Bool) → List A → List A
  passing test [] = []
  passing test (a ∷ l) = let rest = passing test l in cond (test a) (a ∷ rest) rest

  -- every entry passes a test
  abbrev pub all_of : (A → Bool) → List A → Bool
  all_of test [] = true
  all_of test (a ∷ l) = test a && all_of test l

  -- f of each entry, one run after the other
  abbrev pub joined : {B : Type 0} → (A → List B) → List A → List B
  joined f [] = []
  joined f (a ∷ l) = f a ++ joined f l

-- every place of the list is below n
abbrev pub Below : ℕ → List ℕ → Type 0
Below n [] = Unit
Below n (k ∷ ks) = (k < n) × Below n ks

-- ---- what a loop works out over the places below n, in order

-- a state that is carried from place to place
unfoldable pub fold_below : {S : Type 0} → ℕ → (S → ℕ → S) → S → S
fold_below zero step start = start
fold_below (suc n) step start = step (fold_below n step start) n

-- the test holds at every place
unfoldable pub all_below : ℕ → (ℕ → Bool) → Bool
all_below zero test = true
all_below (suc n) test = all_below n test && test n

-- the test holds at some place
unfoldable pub any_below : ℕ → (ℕ → Bool) → Bool
any_below zero test = false
any_below (suc n) test = any_below n test || test n

-- the first place at which the test holds, of the n places from i on
unfoldable pub first : (ℕ → Bool) → ℕ → ℕ → Option ℕ
first test zero i = None
first test (suc n) i = let later = first test n (i + 1) in cond (test i) (Some i) later

-- ---- neighbours on a ring of n places

-- the place after place i, and place 0 after the last
abbrev pub next_of : ℕ → ℕ → ℕ
next_of n i = cond (ltb (i + 1) n) (i + 1) 0

-- the place before place i, and the last before place 0
abbrev pub prev_of : ℕ → ℕ → ℕ
prev_of n i = cond (ltb 0 i) (i - 1) (n - 1)
