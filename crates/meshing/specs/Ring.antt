-- Cleaning a ring: the places of the points that are kept.
use Rattle.std.specs.Prelude.{ℕ, ◌-◌, ◌≤◌, ◌<◌, ◌≡◌, Bool, ◌&&◌, cond, List, [], ◌∷◌, ◌++◌, ltb, leb, eqb, length, get_or, take, Float, Option, MatchOption, Result}
use Rattle.std.specs.Float.{nan}
use Rattle.std.specs.Float.Ieee.{lt}
use Rattle.lists.specs.Answer.{Answer, given, unless, and_then, map_answer, left}
use Rattle.lists.specs.Lists.{fold_below, put, gather, Below}
use Rattle.binary64.specs.Numbers.{◌⊖◌, abs}
use Rattle.binary64.specs.Constants.{tiny52}
use Rattle.openrdson_core.specs.Points.{point_at, ring_fault}
use Rattle.openrdson_core.specs.Answers.{answer as answered}
use Rattle.openrdson_core.specs.declared.points.Point.{Point}
use Rattle.openrdson_core.specs.declared.refusals.Refusal.{Refusal}

-- the points differ by less than 2^-52 in x and in y
abbrev pub is_close : Point → Point → Bool
is_close a b = lt (abs (a.x ⊖ b.x)) tiny52 && lt (abs (a.y ⊖ b.y)) tiny52

-- the last of a list of places
abbrev pub last_of : List ℕ → ℕ
last_of ks = get_or ks (length ks - 1) 0

module _ (xs ys : List Float) where
  -- with the places ks kept so far, point i is dropped if it is close to the last of them
  unfoldable pub keep : List ℕ → ℕ → List ℕ
  keep ks i = cond (ltb 0 (length ks) && is_close (point_at xs ys (last_of ks)) (point_at xs ys i)) ks (ks ++ i ∷ [])

  -- if more than one is kept, the last is dropped once if it is close to the first
  unfoldable pub drop_last : List ℕ → List ℕ
  drop_last ks = cond (ltb 1 (length ks) && is_close (point_at xs ys (get_or ks 0 0)) (point_at xs ys (last_of ks))) (take (length ks - 1) ks) ks

  -- the places that cleaning keeps
  unfoldable pub kept : List ℕ
  kept = drop_last (fold_below (length xs) keep [])

  -- the places kept, where there is room for them in lists of m and n entries: 16, 2, 1, 12
  unfoldable pub dedup_ring : ℕ → ℕ → Answer (List ℕ)
  dedup_ring m n = unless (eqb m n) 16 (and_then (ring_fault xs ys) (λ _. unless (leb (length kept) m) 12 (given kept)))

-- the coordinates at the places
abbrev pub gathered : List Float → List ℕ → List Float
gathered l ks = gather nan l ks

-- ---- what the code leaves behind

-- the first count of the places are those that cleaning keeps
pub record KeptIn (xs ys : List Float) (places : List ℕ) (count : ℕ) : Type 0 where
  pub is : take count places ≡ kept xs ys
  pub below : Below (length xs) (take count places)
  pub within : count ≤ length xs

-- The lists ox and oy after cleaning into them, ox' and oy': the coordinates kept stand over their start, or there is no room and nothing is written.
abbrev pub CleanedIn : List Float → List Float → List Float → List Float → Option ℕ → List Float → List Float → Type 0
CleanedIn xs ys ox oy r ox' oy' =
    MatchOption r
    ((length ox < length (kept xs ys)) × (ox' ≡ ox) × (oy' ≡ oy))
    (λ n. (n ≤ length ox) × (n ≡ length (kept xs ys)) × (ox' ≡ put ox 0 (gathered xs (kept xs ys))) × (oy' ≡ put oy 0 (gathered ys (kept xs ys))))

-- What the call answers, and the lists ox and oy after it, ox' and oy': the coordinates kept stand over their start, and a refused call writes nothing.
pub record CleanedAs (xs ys ox oy : List Float) (r : Result ℕ Refusal) (ox' oy' : List Float) : Type 0 where
  pub answer : answered r ≡ map_answer length (dedup_ring xs ys (length ox) (length oy))
  pub writes_x : ox' ≡ left (map_answer (λ ks. put ox 0 (gathered xs ks)) (dedup_ring xs ys (length ox) (length oy))) ox
  pub writes_y : oy' ≡ left (map_answer (λ ks. put oy 0 (gathered ys ks)) (dedup_ring xs ys (length ox) (length oy))) oy
