-- What meshing a region or a model, or welding, gives back: the counts of the mesh through references, and what it leaves in the lent lists.
use Rattle.std.specs.Prelude.{ℕ, ◌≡◌, List, Float, length}
use Rattle.lists.specs.Answer.{Answer, map_answer, left}
use Rattle.lists.specs.Lists.{put}
use Rattle.openrdson_core.specs.Mesh.{Mesh, the_counts}
use Rattle.openrdson_core.specs.declared.mesh.Counts.{Counts}
use Rattle.meshing.specs.Added.{Part, grown, added}
use Rattle.meshing.specs.Models.{Run}
use Rattle.meshing.specs.Welds.{written_over}
use Rattle.meshing.specs.declared.cells.MeshConfig.{MeshConfig}
use Rattle.c_api.specs.Given.{Given}

-- the pair of cell sizes
abbrev pub the_config : Float → Float → MeshConfig
the_config lateral z = record { lateral_cell = lateral; z_cell = z }

-- The nodes and elements of a, which carry this region number, are appended to the mesh m with the counts c.
pub record GivenMesh (a : Answer Part) (r region : ℕ) (c c' : Counts) (m m' : Mesh) : Type 0 where
  pub counts : Given (map_answer (grown c) a) r c c'
  pub lists : m' ≡ left (map_answer (λ p. added c region p m) a) m

-- The model a is meshed after the mesh m with the counts c; ds and ds' are the diagnostics.
pub record GivenModel (a : Answer Run) (r : ℕ) (c c' : Counts) (m m' : Mesh) (ds ds' : List ℕ) : Type 0 where
  pub counts : Given (map_answer (λ (s : Run). s.counts) a) r c c'
  pub lists : m' ≡ left (map_answer (λ (s : Run). s.mesh) a) m
  pub diagnostics : ds' ≡ left (map_answer (λ (s : Run). put ds 0 s.diagnostics) a) ds

-- The welded mesh a goes over the start of the lent lists; c and c' are what the two counts refer to.
pub record GivenWelded (a : Answer Mesh) (r : ℕ) (c c' : Counts) (lent lent' : Mesh) : Type 0 where
  pub counts : Given (map_answer (λ (w : Mesh). the_counts (length w.xs) (length w.kinds)) a) r c c'
  pub lists : lent' ≡ left (map_answer (written_over lent) a) lent
