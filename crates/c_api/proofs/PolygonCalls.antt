-- Cleaning and triangulating as C sees them, from what the call leaves and what is given of its answer. Assumes nothing.
use Rattle.std.proofs.Common.{ℕ, List}
use Rattle.std.specs.Prelude.{Float, Result}
use Rattle.openrdson_core.specs.Answers.{answer}
use Rattle.openrdson_core.specs.declared.refusals.Refusal.{Refusal}
use Rattle.meshing.specs.Ring.{CleanedAs}
use Rattle.lists.specs.Answer.{Answer}
use Rattle.meshing.specs.Triangulate.{Cutting, Leaves}
use Rattle.meshing.specs.declared.triangulate.PolygonCounts.{PolygonCounts}
use Rattle.c_api.specs.Given.{Given}
use Rattle.c_api.specs.Polygons.{GivenRing, GivenTriangles}
use Rattle.c_api.proofs.Same.{same}

pub given_ring : {xs ys ox oy : List Float} {cleaned : Result ℕ Refusal} {r n n' : ℕ} {ox' oy' : List Float}
    → CleanedAs xs ys ox oy cleaned ox' oy' → Given (answer cleaned) r n n' → GivenRing xs ys ox oy r n n' ox' oy'
given_ring l g = record { count = same l.answer g; writes_x = l.writes_x; writes_y = l.writes_y }

pub given_triangles : {a : Answer Cutting} {xs ys ox oy : List Float} {cs : List ℕ} {triangulated : Result PolygonCounts Refusal} {r : ℕ} {n n' : PolygonCounts} {ox' oy' : List Float} {cs' : List ℕ}
    → Leaves a xs ys ox oy cs triangulated ox' oy' cs' → Given (answer triangulated) r n n' → GivenTriangles a xs ys ox oy cs r n n' ox' oy' cs'
given_triangles l g = record { counts = same l.answer g; writes_x = l.writes_x; writes_y = l.writes_y; writes_corners = l.writes_corners }
