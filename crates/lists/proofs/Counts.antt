-- Sums and counts over a list. Assumes nothing.
use mathlib.Core.Path.{◌≡◌, refl, ap, ◌∙◌}
use mathlib.Core.Bool.{Bool, true, false, ◌&&◌}
use mathlib.Core.List.{List, [], ◌∷◌, ◌++◌, reverse, reverse_aux}
use Prim.Native.Nat.{ℕ, zero, suc, ◌+◌, ◌≤◌, ◌<◌}
use native.Mathlib.Omega.{arith}
use lib.Dec.{eqb}
use borrow.Author.Tests.{eqb-true, eq-eqb}
use Rattle.lists.specs.Counts.{bit, total, occurs}
use Rattle.lists.specs.Lists.{runs, elems, Below}
use Rattle.lists.proofs.Fills.{elems_suc}

module _ {A : Type 0} where
  module _ (f : A → ℕ) where
    pub total_append : (s t : List A) → total f (s ++ t) ≡ total f s + total f t
    total_append [] t = omega arith
    total_append (x ∷ s) t = omega (arith, total_append s t)

    total_reverse_aux : (s t : List A) → total f (reverse_aux s t) ≡ total f s + total f t
    total_reverse_aux [] t = omega arith
    total_reverse_aux (x ∷ s) t = omega (arith, total_reverse_aux s (x ∷ t))

    pub total_reverse : (s : List A) → total f (reverse s) ≡ total f s
    total_reverse s = omega (arith, total_reverse_aux s [])

  -- weights that agree sum to the same
  pub total_same : (f g : A → ℕ) → ((x : A) → f x ≡ g x) → (l : List A) → total f l ≡ total g l
  total_same f g each [] = refl
  total_same f g each (x ∷ l) = omega (arith, each x, total_same f g each l)

  -- and weights that add up, to sums that do
  pub total_sum : (f g h : A → ℕ) → ((x : A) → f x + g x ≡ h x) → (l : List A) → total f l + total g l ≡ total h l
  total_sum f g h each [] = refl
  total_sum f g h each (x ∷ l) = omega (arith, each x, total_sum f g h each l)

-- ---- tests as numbers

pub and_left : (x y : Bool) → bit (x && y) ≤ bit x
and_left true true = omega arith
and_left true false = omega arith
and_left false y = omega arith

pub and_right : (x y : Bool) → bit (x && y) ≤ bit y
and_right true y = omega arith
and_right false y = omega arith

pub and_comm : (x y : Bool) → (x && y) ≡ (y && x)
and_comm true true = refl
and_comm true false = refl
and_comm false true = refl
and_comm false false = refl

pub bit_differs : (a u : ℕ) → (a ≡ u → ⊥) → bit (eqb a u) ≡ 0
bit_differs a u ne = at (eqb a u) refl
  where
    at : (b : Bool) → eqb a u ≡ b → bit b ≡ 0
    at true e = absurd (ne (eqb-true a u e))
    at false e = refl

-- ---- how often a number stands in a list

pub occurs_append : (u : ℕ) (s t : List ℕ) → occurs u (s ++ t) ≡ occurs u s + occurs u t
occurs_append u s t = total_append (λ a. bit (eqb a u)) s t

-- a run of one number: so often itself, and no other
pub occurs_same : (n k : ℕ) → occurs n (elems k (λ _. n)) ≡ k
unfolding runs elems
occurs_same n zero = refl
occurs_same n (suc k) =
    ap (occurs n) (elems_suc (λ _. n) k) ∙ occurs_append n (elems k (λ _. n)) (n ∷ []) ∙ omega (arith, occurs_same n k, ap bit (eq-eqb n n refl))

pub occurs_other : (n u k : ℕ) → (n ≡ u → ⊥) → occurs u (elems k (λ _. n)) ≡ 0
unfolding runs elems
occurs_other n u zero h = refl
occurs_other n u (suc k) h =
    ap (occurs u) (elems_suc (λ _. n) k) ∙ occurs_append u (elems k (λ _. n)) (n ∷ []) ∙ omega (arith, occurs_other n u k h, bit_differs n u h)

-- ---- the numbers below n, each once

occurs_more : (u n : ℕ) → occurs u (elems (suc n) (λ i. i)) ≡ occurs u (elems n (λ i. i)) + bit (eqb n u)
unfolding runs elems
occurs_more u n = omega (arith, occurs_append u (elems n (λ i. i)) (n ∷ []))

-- none past them
pub occurs_past : (u n : ℕ) → n ≤ u → occurs u (elems n (λ i. i)) ≡ 0
unfolding runs elems
occurs_past u zero h = refl
occurs_past u (suc n) h = omega (arith, occurs_more u n, bit_differs n u (omega arith), occurs_past u n (omega arith))

-- and none twice
pub occurs_once : (u n : ℕ) → occurs u (elems n (λ i. i)) ≤ 1
unfolding runs elems
occurs_once u zero = omega arith
occurs_once u (suc n) = at (eqb n u) refl (occurs_once u n)
  where
    at : (b : Bool) → eqb n u ≡ b → occurs u (elems n (λ i. i)) ≤ 1 → occurs u (elems (suc n) (λ i. i)) ≤ 1
    at true e h = let is : n ≡ u = eqb-true n u e in omega (arith, occurs_more u n, occurs_past u n (omega arith), ap bit e)
    at false e h = omega (arith, occurs_more u n, ap bit e)

-- ---- a list whose entries are all below n, from how often they occur

pub below_occurring : (n : ℕ) (l : List ℕ) → ((u : ℕ) → 0 < occurs u l → u < n) → Below n l
below_occurring n [] each = tt
below_occurring n (k ∷ l) each = (each k (omega (arith, ap bit (eq-eqb k k refl))), below_occurring n l (λ u h. each u (omega arith)))
