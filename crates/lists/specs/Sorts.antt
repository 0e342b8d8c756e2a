-- A stable sort by insertion, over any type of element: `less a b` says that a must stand before b.
use Rattle.std.specs.Prelude.{ℕ, zero, suc, Bool, not, ◌&&◌, ◌||◌, cond, List, [], ◌∷◌, ◌++◌, ltb, length, take, drop, get_or}

-- the place after the last of the first n at which the test fails, 0 where it fails at none: where an entry stops that goes left while the test holds
unfoldable pub slot : (ℕ → Bool) → ℕ → ℕ
slot test zero = zero
slot test (suc n) = let left = slot test n in cond (test n) left (suc n)

-- l with a in it at place k
abbrev pub insert_at : {A : Type 0} → ℕ → A → List A → List A
insert_at k a l = take k l ++ a ∷ drop k l

module _ {A : Type 0} (less : A → A → Bool) where
  -- a put into l: it goes left, from the end, past those that it must stand before
  unfoldable pub insert_by : A → List A → List A
  insert_by a l = insert_at (slot (λ k. less a (get_or l k a)) (length l)) a l

  -- the entries of the second list put in, first to last, into the first
  unfoldable pub sort_onto : List A → List A → List A
  sort_onto sorted [] = sorted
  sort_onto sorted (a ∷ l) = sort_onto (insert_by a sorted) l

  -- l sorted: entries of which neither must stand before the other keep their order
  abbrev pub sort_by : List A → List A
  sort_by l = sort_onto [] l

-- numbers of which neither must stand before the other go by their size
abbrev pub or_number : (ℕ → ℕ → Bool) → ℕ → ℕ → Bool
or_number less a b = less a b || (not (less b a) && ltb a b)
