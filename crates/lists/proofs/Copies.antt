-- A loop that copies entries over the start of a lent list; from another place on it fills (Fills: Elems) with the entries. Assumes nothing.
use Prim.Native.Nat.{ℕ, zero, suc, ◌+◌, ◌≤◌, ◌<◌}
use native.Mathlib.Nat.{le_refl}
use native.Mathlib.Omega.{arith}
use native.Mathlib.Numerals.{add-one}
use mathlib.Core.Path.{◌≡◌, refl, sym, ap, ◌∙◌}
use mathlib.Core.List.{List, [], ◌∷◌, ◌++◌}
use lib.ListN.{length, take, get_or, set}
use lib.Seq.{length-take-le, take_all, take-suc, take-length}
use Rattle.lists.specs.Lists.{put, runs, elems}
use Rattle.lists.proofs.Fills.{put_none, put_set, put_length}

module _ {A : Type 0} (old new : List A) where
  pub copy_none : old ≡ put old 0 (take 0 new)
  copy_none = sym (put_none old 0)

  pub copy_more : (other : A) (i : ℕ) → i < length new → i < length old → set (put old 0 (take i new)) i (get_or new i other) ≡ put old 0 (take (i + 1) new)
  copy_more other i h room =
      put_set old 0 (take i new) i (get_or new i other) (omega (arith, length-take-le i new (omega arith))) room
      ∙ ap (put old 0) (sym (ap (λ k. take k new) (add-one i) ∙ take-suc new i other h))

  pub copy_length : (i : ℕ) → i ≤ length new → i ≤ length old → length (put old 0 (take i new)) ≡ length old
  copy_length i h room = put_length old 0 (take i new) (omega (arith, length-take-le i new h))

  -- all of them
  pub copy_all : (i : ℕ) → i ≡ length new → i ≤ length old → take i new ≡ take (length old) new
  copy_all i e room = take_all i new (omega arith) ∙ sym (take_all (length old) new (omega arith))

-- the entries of a list, one by one
module _ {A : Type 0} (other : A) (l : List A) where
  first_elems : (n : ℕ) → n ≤ length l → elems n (λ i. get_or l i other) ≡ take n l
  unfolding runs elems
  first_elems zero h = refl
  first_elems (suc n) h = ap (λ (r : List A). r ++ get_or l n other ∷ []) (first_elems n (omega arith)) ∙ sym (take-suc l n other h)

  pub copy_elems : elems (length l) (λ i. get_or l i other) ≡ l
  copy_elems = first_elems (length l) (le_refl (length l)) ∙ take-length l
