-- Counting the edges round a ring. Assumes nothing.
use mathlib.Core.Path.{◌≡◌, refl, ap, ◌∙◌}
use mathlib.Core.List.{List, [], ◌∷◌, ◌++◌, append-nil}
use Prim.Native.Nat.{ℕ, ◌+◌}
use native.Mathlib.Omega.{arith}
use Rattle.lists.specs.Counts.{total}
use Rattle.lists.proofs.Counts.{total_append}
use Rattle.meshing.specs.Triangles.{Edge, edge, way, ring_edges}

way_append : (x : ℕ) (s : List ℕ) (y : ℕ) (t : List ℕ) (z : ℕ) → way x (s ++ y ∷ t) z ≡ way x s y ++ way y t z
way_append x [] y t z = refl
way_append x (a ∷ s) y t z = ap (λ (l : List Edge). edge x a ∷ l) (way_append a s y t z)

module _ (f : Edge → ℕ) where
  total_way : (x : ℕ) (s : List ℕ) (y : ℕ) (t : List ℕ) (z : ℕ) → total f (way x (s ++ y ∷ t) z) ≡ total f (way x s y) + total f (way y t z)
  total_way x s y t z = rw way_append (total_append f (way x s y) (way y t z))

  -- a ring's edges are counted the same wherever the walk starts
  pub total_turn : (s t : List ℕ) → total f (ring_edges (s ++ t)) ≡ total f (ring_edges (t ++ s))
  total_turn [] t = rw append-nil
  total_turn (a ∷ s) [] = ap (λ (l : List ℕ). total f (ring_edges l)) (append-nil (a ∷ s))
  total_turn (a ∷ s) (b ∷ t) = omega (arith, total_way a s b t a, total_way b t a s b)

  -- The ear b is cut from between a and c: the ring edges from a to b and from b to c give way to the one from a to c.
  pub total_cut : (s q : List ℕ) (a b c : ℕ) (t : List ℕ) → q ++ s ≡ c ∷ (t ++ a ∷ [])
      → total f (ring_edges (s ++ b ∷ q)) + f (edge a c) ≡ total f (ring_edges (s ++ q)) + f (edge a b) + f (edge b c)
  total_cut s q a b c t e =
      let whole : total f (ring_edges (s ++ b ∷ q)) ≡ f (edge b c) + total f (way c (t ++ a ∷ []) b) = total_turn s (b ∷ q) ∙ ap (λ (l : List ℕ). total f (way b l b)) e in
      let rest : total f (ring_edges (s ++ q)) ≡ total f (way c (t ++ a ∷ []) c) = total_turn s q ∙ ap (λ (l : List ℕ). total f (ring_edges l)) e in
      omega (arith, total_way c t a [] b, total_way c t a [] c)
