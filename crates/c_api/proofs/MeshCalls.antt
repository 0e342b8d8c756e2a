-- Meshing a region or a model, and welding, as C sees it, from what the call leaves and what is given of its answer. Assumes nothing.
use Rattle.std.proofs.Common.{ℕ, List}
use Rattle.std.specs.Prelude.{Result}
use Rattle.lists.specs.Answer.{Answer}
use Rattle.openrdson_core.specs.Mesh.{Mesh}
use Rattle.openrdson_core.specs.declared.mesh.Counts.{Counts}
use Rattle.openrdson_core.specs.Answers.{answer}
use Rattle.openrdson_core.specs.declared.refusals.Refusal.{Refusal}
use Rattle.meshing.specs.Added.{Part, Adds}
use Rattle.meshing.specs.Models.{Run, ModelAs}
use Rattle.meshing.specs.Welds.{WeldedAs}
use Rattle.c_api.specs.Given.{Given}
use Rattle.c_api.specs.Meshes.{GivenMesh, GivenModel, GivenWelded}
use Rattle.c_api.proofs.Same.{same}

pub given_mesh : {a : Answer Part} {r region : ℕ} {c c' : Counts} {m m' : Mesh} {meshed : Result Counts Refusal}
    → Adds a c region m m' meshed → Given (answer meshed) r c c' → GivenMesh a r region c c' m m'
given_mesh l g = record { counts = same l.answer g; lists = l.lists }

pub given_model : {a : Answer Run} {r : ℕ} {c c' : Counts} {m m' : Mesh} {ds ds' : List ℕ} {meshed : Result Counts Refusal}
    → ModelAs a m ds meshed m' ds' → Given (answer meshed) r c c' → GivenModel a r c c' m m' ds ds'
given_model l g = record { counts = same l.answer g; lists = l.mesh; diagnostics = l.diagnostics }

pub given_welded : {a : Answer Mesh} {r : ℕ} {c c' : Counts} {lent lent' : Mesh} {meshed : Result Counts Refusal}
    → WeldedAs a lent meshed lent' → Given (answer meshed) r c c' → GivenWelded a r c c' lent lent'
given_welded l g = record { counts = same l.answer g; lists = l.lists }
