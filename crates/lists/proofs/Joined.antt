-- f of each entry of a list, one run after the other: of two lists, how long, written after what was written before, and as the runs that a loop
-- writes. Assumes nothing.
use mathlib.Core.Path.{◌≡◌, refl, sym, ap, ◌∙◌}
use mathlib.Core.List.{List, [], ◌∷◌, ◌++◌, append_assoc, append-nil}
use Prim.Native.Nat.{ℕ, zero, suc, ◌+◌, ◌*◌, ◌≤◌}
use native.Mathlib.Nat.{le_refl, suc-mul, zero-mul}
use native.Mathlib.Omega.{arith}
use lib.ListN.{length, take, get_or, length-append}
use lib.Seq.{take-suc, take-length}
use Rattle.lists.specs.Lists.{put, runs, joined}
use Rattle.lists.proofs.Fills.{put_more}

module _ {A B : Type 0} (f : A → List B) where
  pub joined_append : (s t : List A) → joined f (s ++ t) ≡ joined f s ++ joined f t
  joined_append [] t = refl
  joined_append (a ∷ s) t = rw (joined_append s t, append_assoc)

  pub joined_one : (a : A) → joined f (a ∷ []) ≡ f a
  joined_one a = append-nil (f a)

  pub joined_lengths : (s t : List A) → length (joined f (s ++ t)) ≡ length (joined f s) + length (joined f t)
  joined_lengths s t = ap length (joined_append s t) ∙ length-append (joined f s) (joined f t)

  -- runs that are all w long
  pub joined_length : (w : ℕ) → ((a : A) → length (f a) ≡ w) → (l : List A) → length (joined f l) ≡ length l * w
  joined_length w each [] = sym (zero-mul w)
  joined_length w each (a ∷ l) = length-append (f a) (joined f l) ∙ omega (arith, each a, joined_length w each l, suc-mul (length l) w)

  -- runs that are at most w long
  pub joined_most : (w : ℕ) → ((a : A) → length (f a) ≤ w) → (l : List A) → length (joined f l) ≤ length l * w
  joined_most w each [] = omega (arith, zero-mul w)
  joined_most w each (a ∷ l) = omega (arith, length-append (f a) (joined f l), each a, joined_most w each l, suc-mul (length l) w)

  -- a turn of a loop that writes the runs of t right after those of s
  pub put_joined : (l₀ : List B) (at : ℕ) (s t : List A) {l m : List B} {p : ℕ}
      → l ≡ put l₀ at (joined f s) → m ≡ put l p (joined f t) → p ≡ at + length (joined f s) → p + length (joined f t) ≤ length l₀
      → m ≡ put l₀ at (joined f (s ++ t))
  put_joined l₀ at s t {l} {m} {p} e g h room =
      g ∙ ap (λ (k : List B). put k p (joined f t)) e ∙ put_more l₀ at (joined f s) (joined f t) p h room ∙ ap (put l₀ at) (sym (joined_append s t))

  -- the runs of the first n entries, and of all
  pub joined_first : (other : A) (l : List A) (n : ℕ) → n ≤ length l → runs n (λ i. f (get_or l i other)) ≡ joined f (take n l)
  unfolding runs
  joined_first other l zero h = refl
  joined_first other l (suc n) h =
      ap (λ (r : List B). r ++ f (get_or l n other)) (joined_first other l n (omega arith))
      ∙ ap (λ (r : List B). joined f (take n l) ++ r) (sym (append-nil (f (get_or l n other))))
      ∙ sym (ap (joined f) (take-suc l n other h) ∙ joined_append (take n l) (get_or l n other ∷ []))

  pub joined_runs : (other : A) (l : List A) → runs (length l) (λ i. f (get_or l i other)) ≡ joined f l
  joined_runs other l = joined_first other l (length l) (le_refl (length l)) ∙ ap (joined f) (take-length l)
