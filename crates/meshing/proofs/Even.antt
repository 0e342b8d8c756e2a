-- Every height is crossed an even number of times: along the ring, the last edge comes back to the side of the first vertex. Assumes nothing.
use mathlib.Core.Path.{◌≡◌, refl, sym, ap, ◌∙◌, subst}
use mathlib.Core.Bool.{Bool, true, false, not, xor, cond}
use mathlib.Core.List.{List, [], ◌∷◌}
use Prim.Native.Nat.{ℕ, zero, suc, ◌+◌, ◌<◌}
use native.Mathlib.Numerals.{add-one}
use native.Mathlib.Omega.{arith}
use lib.ListN.{length, length-append}
use lib.Ieee.{Float, le}
use Rattle.lists.specs.Lists.{runs, elems, passing, all_of, next_of}
use Rattle.lists.proofs.Places.{next_inside, next_last}
use Rattle.lists.proofs.Passing.{passing_more, passing_skips}
use Rattle.lists.proofs.Sorts.{sort_length}
use Rattle.binary64.specs.Numbers.{at}
use Rattle.meshing.specs.declared.levels.Band.{Band}
use Rattle.meshing.specs.Levels.{middle}
use Rattle.meshing.specs.Crossings.{spans, spanning, left_of, crossings}
use Rattle.meshing.specs.Scanline.{is_even, even_band}

same_side : (p : Bool) → not (xor p p) ≡ true
unfolding xor
same_side true = refl
same_side false = refl

-- n edges that change sides lead from side z to side p: then one from side p to side q
turn : (p q z : Bool) (n : ℕ) → is_even n ≡ not (xor z p) → is_even (cond (xor p q) (suc n) n) ≡ not (xor z q)
unfolding xor
turn true true z n e = e
turn true false true n e = ap not e
turn true false false n e = ap not e
turn false true true n e = ap not e
turn false true false n e = ap not e
turn false false z n e = e

module _ (ys : List Float) (y : Float) where
  -- vertex i is not above the height
  abbrev low : ℕ → Bool
  low i = le (at ys i) y

  abbrev changed : ℕ → List ℕ
  changed n = passing (spans ys y) (elems n (λ e. e))

  changed_more : (n : ℕ) → length (changed (n + 1)) ≡ cond (spans ys y n) (suc (length (changed n))) (length (changed n))
  changed_more n = go (spans ys y n) refl
    where
      go : (b : Bool) → spans ys y n ≡ b → length (changed (n + 1)) ≡ cond b (suc (length (changed n))) (length (changed n))
      go true e = ap length (passing_more (spans ys y) (λ i. i) n e) ∙ omega (arith, length-append (changed n) (n ∷ []))
      go false e = ap length (passing_skips (spans ys y) (λ i. i) n e)

  -- one edge more, which ends at vertex k
  edge : (n k : ℕ) → next_of (length ys) n ≡ k → is_even (length (changed n)) ≡ not (xor (low 0) (low n)) → is_even (length (changed (n + 1))) ≡ not (xor (low 0) (low k))
  unfolding spans
  edge n k next e =
      ap is_even (changed_more n)
      ∙ ap (λ (j : ℕ). is_even (cond (xor (low n) (low j)) (suc (length (changed n))) (length (changed n)))) next
      ∙ turn (low n) (low k) (low 0) (length (changed n)) e

  -- of the edges before the last
  before_last : (n : ℕ) → n < length ys → is_even (length (changed n)) ≡ not (xor (low 0) (low n))
  unfolding runs elems
  before_last zero h = sym (same_side (low 0))
  before_last (suc n) h =
      subst (λ (k : ℕ). is_even (length (changed k)) ≡ not (xor (low 0) (low k))) (add-one n)
      (edge n (n + 1) (next_inside (length ys) n (omega arith)) (before_last n (omega arith)))

  spanning_even : (n : ℕ) → n ≡ length ys → is_even (length (changed n)) ≡ true
  unfolding runs elems
  spanning_even zero h = refl
  spanning_even (suc n) h =
      subst (λ (k : ℕ). is_even (length (changed k)) ≡ true) (add-one n)
      (edge n 0 (next_last (length ys) n (omega arith)) (before_last n (omega arith)) ∙ same_side (low 0))

module _ (xs ys : List Float) where
  pub crossings_even : (y : Float) → is_even (length (crossings xs ys y)) ≡ true
  unfolding crossings
  crossings_even y = ap is_even (sort_length (left_of xs ys y) (spanning ys y)) ∙ spanning_even ys y (length ys) refl

  pub bands_even : (bs : List Band) → all_of (even_band xs ys) bs ≡ true
  unfolding even_band
  bands_even [] = refl
  bands_even (b ∷ bs) = rw (crossings_even (middle b), bands_even bs)
