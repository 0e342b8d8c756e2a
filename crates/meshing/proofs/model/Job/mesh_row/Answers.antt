-- `mesh_row` meets its contract: the row is read, and meshed if it is a region. Assumes nothing.
use Rattle.std.proofs.Common.{arith}
use Rattle.std.proofs.lemmas.Grind.{common_steps}
use Rattle.meshing.proofs.BoxWrites.{same_adds, refused_adds}
use Rattle.meshing.proofs.ModelLaws.{row_refused, row_built}
use Rattle.meshing.proofs.model.Job.mesh_row.Goals as goal

pub returns-in_err-region-clause-mesh : goal.returns-in_err-region-clause-mesh
returns-in_err-region-clause-mesh c = refused_adds _ (row_refused _ _ _ _ _ _ _ _ c.in_err-region.ensures) (grind (arith, common_steps))

pub returns-clause-mesh : goal.returns-clause-mesh
returns-clause-mesh c = same_adds (row_built _ _ _ _ _ _ _ _ c.in_ok-region.ensures c.config_for-config.ensures) c.mesh_region.ensures.mesh
