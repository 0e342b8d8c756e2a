-- The vertices after and before a place of a walk are the first and the last of the walk round from the one to the other. Assumes nothing.
use mathlib.Core.Path.{◌≡◌, refl, ap, ◌∙◌}
use mathlib.Core.Logic.{⊎_elim}
use mathlib.Core.List.{List, [], ◌∷◌, ◌++◌, append-nil}
use Prim.Native.Nat.{ℕ, zero, suc, ◌+◌, ◌-◌, ◌≤◌, ◌<◌}
use native.Mathlib.Nat.{eq-or-lt_of_le}
use native.Mathlib.Omega.{arith}
use lib.ListN.{length, get_or, take, drop, length-append, length-take, length-drop, drop_of_length-le, get_or-append}
use lib.Seq.{get_or-take, get_or-drop, get_or-append-add}
use borrow.Author.Tests.{lt-ltb}
use Rattle.lists.specs.Lists.{next_of, prev_of}
use Rattle.lists.proofs.Places.{next_inside, next_last}
use Rattle.meshing.specs.Clipping.{before, after}

-- a list by its last entry, and by its first and last
snoc : (x : ℕ) (l : List ℕ) → (t : List ℕ) × (x ∷ l ≡ t ++ get_or (x ∷ l) (length l) 0 ∷ [])
snoc x [] = ([], refl)
snoc x (y ∷ l) = let r = snoc y l in (x ∷ r.0, ap (λ (k : List ℕ). x ∷ k) r.1)

ends : (l : List ℕ) (m : ℕ) → length l ≡ suc (suc m) → (t : List ℕ) × (l ≡ get_or l 0 0 ∷ (t ++ get_or l (suc m) 0 ∷ []))
ends [] m e = absurd (omega arith)
ends (x ∷ []) m e = absurd (omega arith)
ends (x ∷ y ∷ l) m e =
    let h : length l ≡ m = omega arith in
    let r = snoc y l in
    (r.0, ap (λ (k : List ℕ). x ∷ k) (r.1 ∙ ap (λ (j : ℕ). r.0 ++ get_or (y ∷ l) j 0 ∷ []) h))

-- the walk round from the vertex after place i to the one before it
abbrev pub round : List ℕ → ℕ → List ℕ
round w i = drop (i + 1) w ++ take i w

round_length : (w : List ℕ) (i m : ℕ) → i < length w → length w ≡ 3 + m → length (round w i) ≡ suc (suc m)
round_length w i m h e = simp (length-append, length-drop, length-take) (omega arith)

round_first : (w : List ℕ) (i : ℕ) → i < length w → 2 < length w → get_or (round w i) 0 0 ≡ after w i
round_first w i h m = ⊎_elim at_end inside (eq-or-lt_of_le h)
  where
    at_end : suc i ≡ length w → get_or (round w i) 0 0 ≡ after w i
    at_end e =
        let past : length w ≤ i + 1 = omega arith in
        let none : drop (i + 1) w ≡ [] = drop_of_length-le w past in
        let back : next_of (length w) i ≡ 0 = next_last (length w) i (omega arith) in
        let some : 0 < i = omega arith in
        rw (none, back, get_or-take i w 0 0 some)

    inside : suc i < length w → get_or (round w i) 0 0 ≡ after w i
    inside l =
        let there : 0 < length (drop (i + 1) w) = rw length-drop (omega arith) in
        let stay : next_of (length w) i ≡ i + 1 + 0 = next_inside (length w) i (omega arith) ∙ omega arith in
        rw (get_or-append (drop (i + 1) w) (take i w) 0 0 there, get_or-drop, stay)

round_last : (w : List ℕ) (i m : ℕ) → i < length w → length w ≡ 3 + m → get_or (round w i) (suc m) 0 ≡ before w i
round_last w zero m h e =
    let stay : length w - 1 ≡ 1 + suc m = omega arith in
    rw (append-nil, get_or-drop 1 w, stay)
round_last w (suc i) m h e =
    let place : suc m ≡ length (drop (suc i + 1) w) + i = rw length-drop (omega arith) in
    let back : prev_of (length w) (suc i) ≡ i = rw (lt-ltb 0 (suc i) (omega arith)) (omega arith) in
    rw (place, get_or-append-add, get_or-take (suc i) w i 0 (omega arith), back)

pub around : (w : List ℕ) (i : ℕ) → i < length w → 2 < length w → (t : List ℕ) × (round w i ≡ after w i ∷ (t ++ before w i ∷ []))
around w i h l =
    let m : ℕ = length w - 3 in
    let e : length w ≡ 3 + m = omega arith in
    let r = ends (round w i) m (round_length w i m h e) in
    (r.0, rw (← round_first w i h l, ← round_last w i m h e) r.1)
