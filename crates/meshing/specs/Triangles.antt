-- Triangles over the vertices of a ring, and when they are a triangulation of it. A walk is the list of a ring's vertices in the order in which they are
-- gone round.
use Rattle.std.specs.Prelude.{ℕ, ◌+◌, ◌<◌, ◌≡◌, Bool, true, false, ◌&&◌, List, [], ◌∷◌, reverse, ltb, eqb, length}
use Rattle.lists.specs.Lists.{elems}
use Rattle.lists.specs.Counts.{tally, occurs}

-- three vertices, by their places in the ring
pub data Triangle : Type 0 where
  tri : ℕ → ℕ → ℕ → Triangle

-- from one vertex to another
pub data Edge : Type 0 where
  edge : ℕ → ℕ → Edge

-- 0 to n - 1, forward or reversed
abbrev pub walk : Bool → ℕ → List ℕ
walk true n = elems n (λ i. i)
walk false n = reverse (elems n (λ i. i))

-- ---- edges

-- the edges on the way from u through the vertices listed to z
abbrev pub way : ℕ → List ℕ → ℕ → List Edge
way u [] z = edge u z ∷ []
way u (v ∷ w) z = edge u v ∷ way v w z

-- from each vertex of the walk to the next, the last to the first
abbrev pub ring_edges : List ℕ → List Edge
ring_edges [] = []
ring_edges (u ∷ w) = way u w u

-- first to second, second to third, third to first corner of each triangle
abbrev pub edges : List Triangle → List Edge
edges [] = []
edges (tri a b c ∷ ts) = edge a b ∷ edge b c ∷ edge c a ∷ edges ts

-- the corners of each triangle, three after three
abbrev pub corners : List Triangle → List ℕ
corners [] = []
corners (tri a b c ∷ ts) = a ∷ b ∷ c ∷ corners ts

-- triangles from a list of corners, three after three; what is left over is dropped
abbrev pub triples : List ℕ → List Triangle
triples [] = []
triples (a ∷ []) = []
triples (a ∷ b ∷ []) = []
triples (a ∷ b ∷ c ∷ l) = tri a b c ∷ triples l

-- ---- counting edges

abbrev pub is_edge : ℕ → ℕ → Edge → Bool
is_edge u v (edge a b) = eqb a u && eqb b v

-- how often the edge from u to v stands in a list
abbrev pub times : ℕ → ℕ → List Edge → ℕ
times u v es = tally (is_edge u v) es

-- An edge from a lower to a higher vertex that is no ring edge in either direction. A pair of different vertices that occurs once in each direction, and is
-- no ring edge, has exactly one such edge.
abbrev pub inner : List ℕ → Edge → Bool
inner w (edge u v) = ltb u v && eqb (times u v (ring_edges w)) 0 && eqb (times v u (ring_edges w)) 0

-- ---- ts triangulate a ring of n vertices that is gone round forward or reversed

pub record Triangulation (forward : Bool) (n : ℕ) (ts : List Triangle) : Type 0 where
  -- there are n - 2 triangles
  pub number : length ts + 2 ≡ n
  -- corners lie below n
  pub below : (u : ℕ) → 0 < occurs u (corners ts) → u < n
  -- each ring edge occurs exactly once, in the walk's direction, and never against it
  pub along : (u v : ℕ) → 0 < times u v (ring_edges (walk forward n)) → (times u v (edges ts) ≡ 1) × (times v u (edges ts) ≡ 0)
  -- any other edge that occurs joins two different vertices, and occurs exactly once in each direction
  pub across : (u v : ℕ) → times u v (ring_edges (walk forward n)) ≡ 0 → times v u (ring_edges (walk forward n)) ≡ 0 → 0 < times u v (edges ts)
      → (u ≡ v → ⊥) × (times u v (edges ts) ≡ 1) × (times v u (edges ts) ≡ 1)
  -- and there are n - 3 such pairs
  pub pairs : tally (inner (walk forward n)) (edges ts) + 3 ≡ n
