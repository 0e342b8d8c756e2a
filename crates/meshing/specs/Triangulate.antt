-- Triangulating a ring: cleaned, walked round, clipped, and written where there is room.
use Rattle.std.specs.Prelude.{ℕ, ◌*◌, ◌≡◌, List, eqb, leb, length, take, Float, Result, Ok, Err}
use Rattle.lists.specs.Answer.{Answer, given, unless, and_then, map_answer, left}
use Rattle.lists.specs.Lists.{put}
use Rattle.openrdson_core.specs.Answers.{answer as answered}
use Rattle.openrdson_core.specs.declared.refusals.Refusal.{Refusal}
use Rattle.openrdson_core.specs.Points.{ring_fault}
use Rattle.meshing.specs.Ring.{kept, gathered}
use Rattle.meshing.specs.Triangles.{Triangle, corners, triples, Triangulation}
use Rattle.meshing.specs.Ears.{is_forward, triangles_of}
use Rattle.meshing.specs.declared.triangulate.PolygonCounts.{PolygonCounts}

-- the cleaned ring, as the places kept, and its triangles
pub record Cutting : Type 0 where
  pub ring : List ℕ
  pub triangles : List Triangle

-- 12, where lists of m points and of c corners are lent
unfoldable pub fitted : ℕ → ℕ → List ℕ → List Triangle → Answer Cutting
fitted m c ks ts = unless (leb (length ks) m) 12 (unless (leb (length (corners ts)) c) 12 (given (record { ring = ks; triangles = ts })))

-- 3 and 4 of the points at the places ks, then 12
unfoldable pub cutting : List Float → List Float → ℕ → ℕ → List ℕ → Answer Cutting
cutting xs ys m c ks = and_then (triangles_of (gathered xs ks) (gathered ys ks)) (fitted m c ks)

-- 16, 2, 1, 3, 4, 12, where lists of m and n coordinates and of c corners are lent
unfoldable pub triangulate_polygon : List Float → List Float → ℕ → ℕ → ℕ → Answer Cutting
triangulate_polygon xs ys m n c = unless (eqb m n) 16 (and_then (ring_fault xs ys) (λ _. cutting xs ys m c (kept xs ys)))

-- ---- what the call answers, the numbers of vertices and of triangles, and what it leaves in the lists

-- the numbers that it gives
abbrev pub numbers : Cutting → PolygonCounts
numbers c = record { vertices = length c.ring; triangles = length c.triangles }

pub record Leaves (a : Answer Cutting) (xs ys ox oy : List Float) (cs : List ℕ) (r : Result PolygonCounts Refusal) (ox' oy' : List Float) (cs' : List ℕ) : Type 0 where
  pub answer : answered r ≡ map_answer numbers a
  pub writes_x : ox' ≡ left (map_answer (λ (c : Cutting). put ox 0 (gathered xs c.ring)) a) ox
  pub writes_y : oy' ≡ left (map_answer (λ (c : Cutting). put oy 0 (gathered ys c.ring)) a) oy
  pub writes_corners : cs' ≡ left (map_answer (λ (c : Cutting). put cs 0 (corners c.triangles)) a) cs

-- the triangles written are a triangulation of the ring written, walked round in the direction of its computed area
abbrev pub TriangulationLeft : Result PolygonCounts Refusal → List Float → List Float → List ℕ → Type 0
TriangulationLeft (Ok n) ox oy cs = Triangulation (is_forward (take n.vertices ox) (take n.vertices oy)) n.vertices (triples (take (n.triangles * 3) cs))
TriangulationLeft (Err why) ox oy cs = Unit
