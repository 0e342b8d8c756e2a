-- The run of an accepted clipping, as a relation: which ear was cut when. Assumes nothing.
use mathlib.Core.Path.{◌≡◌, refl, subst}
use mathlib.Core.Bool.{Bool, true, false}
use Rattle.std.specs.Prelude.{Option, Some, None}
use mathlib.Core.List.{List, [], ◌∷◌}
use Prim.Native.Nat.{ℕ, zero, suc, ◌+◌, ◌<◌}
use native.Mathlib.Omega.{arith}
use lib.ListN.{length, length-append, length-take, length-drop}
use Rattle.lists.specs.Answer.{Answer, refused, given, map_answer}
use Rattle.lists.specs.Lists.{first}
use Rattle.lists.proofs.Answers.{refused_given}
use Rattle.lists.proofs.Searches.{First, first_is}
use Rattle.meshing.specs.Triangles.{Triangle, tri}
use Rattle.meshing.specs.Clipping.{here, triangle_at, without, cut_at, cutting}

-- Three vertices are taken in their order. Of more, the first ear is cut, and what remains is clipped.
pub data Clipped (ear : List ℕ → ℕ → Bool) : List ℕ → List Triangle → Type 0 where
  last : (x y z : ℕ) → Clipped ear (x ∷ y ∷ z ∷ []) (tri x y z ∷ [])
  cut : (w : List ℕ) (i : ℕ) (ts : List Triangle) → i < length w → 3 < length w → ear w i ≡ true → ((j : ℕ) → j < i → ear w j ≡ false) → Clipped ear (without w i) ts → Clipped ear w (triangle_at w i ∷ ts)

pub without_length : (w : List ℕ) (i : ℕ) → i < length w → length (without w i) + 1 ≡ length w
without_length w i h = simp (length-append, length-take, length-drop) (omega arith)

last_three : (ear : List ℕ → ℕ → Bool) (w : List ℕ) (ts : List Triangle) → length w ≡ 3 → given (tri (here w 0) (here w 1) (here w 2) ∷ []) ≡ given ts → Clipped ear w ts
last_three ear [] ts l e = absurd (omega arith)
last_three ear (x ∷ []) ts l e = absurd (omega arith)
last_three ear (x ∷ y ∷ []) ts l e = absurd (omega arith)
last_three ear (x ∷ y ∷ z ∷ []) ts l e = let h : tri x y z ∷ [] ≡ ts = cc in rw (← h) (last x y z)
last_three ear (x ∷ y ∷ z ∷ v ∷ w) ts l e = absurd (omega arith)

-- the definition runs so
pub cutting_clipped : (ear : List ℕ → ℕ → Bool) (k : ℕ) (w : List ℕ) (ts : List Triangle) → length w ≡ k + 3 → cutting ear k w ≡ given ts → Clipped ear w ts
cutting_clipped ear zero w ts l e = last_three ear w ts (omega arith) e
cutting_clipped ear (suc k) w ts l e = found (cutting_clipped ear k) (first (ear w) (length w) 0) refl e
  where
    Later : Type 0
    Later = (v : List ℕ) (us : List Triangle) → length v ≡ k + 3 → cutting ear k v ≡ given us → Clipped ear v us

    rest : Later → (i : ℕ) → First (ear w) (length w) 0 i → (r : Answer (List Triangle)) → cutting ear k (without w i) ≡ r → map_answer (λ us. triangle_at w i ∷ us) r ≡ given ts → Clipped ear w ts
    rest later i h (refused n) f e = refused_given e
    rest later i h (given us) f e =
        let g : triangle_at w i ∷ us ≡ ts = cc in
        let p : i < length w = omega arith in
        subst (Clipped ear w) g (cut w i us p (omega arith) h.holds (λ j q. h.earlier j (omega arith) q) (later (without w i) us (omega (arith, without_length w i p)) f))

    found : Later → (o : Option ℕ) → first (ear w) (length w) 0 ≡ o → cut_at (cutting ear k) w o ≡ given ts → Clipped ear w ts
    found later None f e = refused_given e
    found later (Some i) f e = rest later i (first_is (ear w) (length w) 0 i f) (cutting ear k (without w i)) refl e
