-- Sums and counts over a list.
use Rattle.std.specs.Prelude.{ℕ, ◌+◌, ◌≡◌, Bool, true, false, List, [], ◌∷◌, eqb}

-- 1 for yes, 0 for no
abbrev pub bit : Bool → ℕ
bit true = 1
bit false = 0

module _ {A : Type 0} where
  -- the sum of a weight over a list
  abbrev pub total : (A → ℕ) → List A → ℕ
  total f [] = 0
  total f (x ∷ l) = f x + total f l

  -- how many entries pass a test
  abbrev pub tally : (A → Bool) → List A → ℕ
  tally test l = total (λ x. bit (test x)) l

-- the same entries, in any order: as many of them pass each test
abbrev pub SameEntries : {A : Type 0} → List A → List A → Type 0
SameEntries {A} a b = (test : A → Bool) → tally test a ≡ tally test b

-- how often u stands in a list
abbrev pub occurs : ℕ → List ℕ → ℕ
occurs u l = tally (λ a. eqb a u) l
