-- Lists of places, the entries gathered at them, and neighbours on a ring. Assumes nothing.
use mathlib.Core.Path.{◌≡◌, refl, sym, ap, ◌∙◌}
use mathlib.Core.Bool.{Bool, true, false, cond}
use mathlib.Core.List.{List, [], ◌∷◌, ◌++◌, map-append}
use Prim.Native.Nat.{ℕ, zero, suc, ◌+◌, ◌-◌, ◌≤◌, ◌<◌}
use native.Mathlib.Nat.{not-suc-le-zero, le_of_suc-le-suc, le_refl}
use native.Mathlib.Omega.{arith}
use lib.Dec.{ltb}
use lib.ListN.{length, get_or, take, drop, length-map}
use lib.Seq.{take-suc, take-length}
use borrow.Author.Tests.{ltb-true, lt-ltb, le-ltb}
use Rattle.lists.specs.Lists.{runs, elems, Below, gather, next_of, prev_of}
use Rattle.lists.proofs.Copies.{copy_elems}
use Rattle.lists.proofs.Fills.{elems_length, elems_same, elems_at}

pub gather_length : {A : Type 0} (other : A) (l : List A) (ks : List ℕ) → length (gather other l ks) ≡ length ks
gather_length other l ks = length-map ks (λ k. get_or l k other)

-- a loop over the places gathers their entries
gathers : {A : Type 0} (other : A) (l : List A) (ks : List ℕ) (n : ℕ) → n ≤ length ks → elems n (λ i. get_or l (get_or ks i 0) other) ≡ gather other l (take n ks)
unfolding runs elems
gathers other l ks zero h = refl
gathers other l ks (suc n) h = rw (take-suc ks n 0 h, map-append, gathers other l ks n (omega arith))

pub gather_elems : {A : Type 0} (other : A) (l : List A) (ks : List ℕ) → elems (length ks) (λ i. get_or l (get_or ks i 0) other) ≡ gather other l ks
gather_elems other l ks = gathers other l ks (length ks) (le_refl (length ks)) ∙ ap (gather other l) (take-length ks)

-- the entries at all places are the list
pub gather_all : {A : Type 0} (other : A) (l : List A) (n : ℕ) → n ≡ length l → gather other l (elems n (λ i. i)) ≡ l
gather_all {A} other l n h =
    sym (gather_elems other l (elems n (λ i. i)))
    ∙ ap (λ (k : ℕ). elems k (λ i. get_or l (get_or (elems n (λ i. i)) i 0) other)) (elems_length (λ i. i) n)
    ∙ elems_same (λ i. get_or l (get_or (elems n (λ i. i)) i 0) other) (λ i. get_or l i other) n (λ i b. ap (λ (k : ℕ). get_or l k other) (elems_at (λ i. i) 0 n i b))
    ∙ ap (λ (k : ℕ). elems k (λ i. get_or l i other)) h
    ∙ copy_elems other l

module _ (n : ℕ) where
  pub below_at : (ks : List ℕ) (i : ℕ) → Below n ks → i < length ks → get_or ks i 0 < n
  below_at [] i b h = absurd (not-suc-le-zero h)
  below_at (k ∷ ks) zero b h = b.0
  below_at (k ∷ ks) (suc i) b h = below_at ks i b.1 (le_of_suc-le-suc h)

  pub below_take : (ks : List ℕ) (m : ℕ) → Below n ks → Below n (take m ks)
  below_take ks zero b = tt
  below_take [] (suc m) b = tt
  below_take (k ∷ ks) (suc m) b = (b.0, below_take ks m b.1)

  pub below_drop : (ks : List ℕ) (m : ℕ) → Below n ks → Below n (drop m ks)
  below_drop ks zero b = b
  below_drop [] (suc m) b = tt
  below_drop (k ∷ ks) (suc m) b = below_drop ks m b.1

  pub below_append : (ks ls : List ℕ) → Below n ks → Below n ls → Below n (ks ++ ls)
  below_append [] ls b c = c
  below_append (k ∷ ks) ls b c = (b.0, below_append ks ls b.1 c)

  pub below_more : (ks : List ℕ) (i : ℕ) → Below n ks → i < n → Below n (ks ++ i ∷ [])
  below_more [] i b h = (h, tt)
  below_more (k ∷ ks) i b h = (b.0, below_more ks i b.1 h)

  -- the next place, inside the ring and at its end
  pub next_inside : (i : ℕ) → i + 1 < n → next_of n i ≡ i + 1
  next_inside i h = rw (lt-ltb (i + 1) n h)

  pub next_last : (i : ℕ) → i + 1 ≡ n → next_of n i ≡ 0
  next_last i h = rw (le-ltb (i + 1) n (omega arith))

  -- a neighbour of a place on the ring is on the ring
  pub next_below : (i : ℕ) → i < n → next_of n i < n
  next_below i h = at (ltb (i + 1) n) refl
    where
      at : (b : Bool) → ltb (i + 1) n ≡ b → cond b (i + 1) 0 < n
      at true e = ltb-true (i + 1) n e
      at false e = omega arith

  pub prev_below : (i : ℕ) → i < n → prev_of n i < n
  prev_below i h = at (ltb 0 i) refl
    where
      at : (b : Bool) → ltb 0 i ≡ b → cond b (i - 1) (n - 1) < n
      at true e = omega arith
      at false e = omega arith

pub below_wider : (n m : ℕ) (ks : List ℕ) → n ≤ m → Below n ks → Below m ks
below_wider n m [] h b = tt
below_wider n m (k ∷ ks) h b = (omega (arith, b.0), below_wider n m ks h b.1)
