-- Triangles and the list of their corners. Assumes nothing.
use mathlib.Core.Path.{◌≡◌, refl, ap}
use mathlib.Core.List.{List, [], ◌∷◌}
use Prim.Native.Nat.{ℕ, zero, suc, ◌+◌, ◌*◌, ◌<◌}
use native.Mathlib.Omega.{arith}
use lib.ListN.{length, get_or}
use Rattle.meshing.specs.Triangles.{Triangle, tri, corners, triples}

-- the triangles read from the corners written are those that were written
pub triples_corners : (ts : List Triangle) → triples (corners ts) ≡ ts
triples_corners [] = refl
triples_corners (tri a b c ∷ ts) = ap (λ (l : List Triangle). tri a b c ∷ l) (triples_corners ts)

-- a triangle read from its three corners
pub triple_at : (l : List ℕ) (i k : ℕ) → i ≡ k * 3 → i + 2 < length l → get_or (triples l) k (tri 0 0 0) ≡ tri (get_or l i 0) (get_or l (i + 1) 0) (get_or l (i + 2) 0)
triple_at [] i k e h = absurd (omega arith)
triple_at (a ∷ []) i k e h = absurd (omega arith)
triple_at (a ∷ b ∷ []) i k e h = absurd (omega arith)
triple_at (a ∷ b ∷ c ∷ l) i zero e h =
    let f : 0 ≡ i = omega arith in
    ap (λ (j : ℕ). tri (get_or (a ∷ b ∷ c ∷ l) j 0) (get_or (a ∷ b ∷ c ∷ l) (j + 1) 0) (get_or (a ∷ b ∷ c ∷ l) (j + 2) 0)) f
triple_at (a ∷ b ∷ c ∷ l) i (suc k) e h =
    let p : i ≡ suc (suc (suc (k * 3))) = omega arith in
    let q : i + 1 ≡ suc (suc (suc (k * 3 + 1))) = omega arith in
    let r : i + 2 ≡ suc (suc (suc (k * 3 + 2))) = omega arith in
    rw (r, q, p) (triple_at l (k * 3) k refl (omega arith))
