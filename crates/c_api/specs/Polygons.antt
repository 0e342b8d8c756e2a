-- What cleaning and triangulating a ring give back: counts through references, and what they leave in the lent lists.
use Rattle.std.specs.Prelude.{ℕ, ◌≡◌, List, Float, length}
use Rattle.lists.specs.Answer.{Answer, map_answer, left}
use Rattle.lists.specs.Lists.{put}
use Rattle.meshing.specs.Ring.{dedup_ring, gathered}
use Rattle.meshing.specs.Triangles.{corners}
use Rattle.meshing.specs.Triangulate.{Cutting, numbers}
use Rattle.meshing.specs.declared.triangulate.PolygonCounts.{PolygonCounts}
use Rattle.c_api.specs.Given.{Given}

-- The ring through xs and ys is cleaned into the lists ox and oy; n and n' are the number of points before the call and after it.
pub record GivenRing (xs ys ox oy : List Float) (r n n' : ℕ) (ox' oy' : List Float) : Type 0 where
  pub count : Given (map_answer length (dedup_ring xs ys (length ox) (length oy))) r n n'
  pub writes_x : ox' ≡ left (map_answer (λ ks. put ox 0 (gathered xs ks)) (dedup_ring xs ys (length ox) (length oy))) ox
  pub writes_y : oy' ≡ left (map_answer (λ ks. put oy 0 (gathered ys ks)) (dedup_ring xs ys (length ox) (length oy))) oy

-- these numbers of vertices and of triangles
abbrev pub the_numbers : ℕ → ℕ → PolygonCounts
the_numbers vertices triangles = record { vertices = vertices; triangles = triangles }

-- The ring through xs and ys is cleaned into ox and oy and cut as a says, its corners written to cs; n and n' are the two numbers.
pub record GivenTriangles (a : Answer Cutting) (xs ys ox oy : List Float) (cs : List ℕ) (r : ℕ) (n n' : PolygonCounts) (ox' oy' : List Float) (cs' : List ℕ) : Type 0 where
  pub counts : Given (map_answer numbers a) r n n'
  pub writes_x : ox' ≡ left (map_answer (λ (c : Cutting). put ox 0 (gathered xs c.ring)) a) ox
  pub writes_y : oy' ≡ left (map_answer (λ (c : Cutting). put oy 0 (gathered ys c.ring)) a) oy
  pub writes_corners : cs' ≡ left (map_answer (λ (c : Cutting). put cs 0 (corners c.triangles)) a) cs
