-- `mesh_model_with_options` meets its contract: the job is judged, and its regions are meshed. Assumes nothing.
use Rattle.std.proofs.Common.{ap, length, arith}
use Rattle.std.proofs.lemmas.Grind.{common_steps}
use Rattle.geometry.specs.Regions.{Regions}
use Rattle.meshing.proofs.ModelLaws.{model_refused, model_done}
use Rattle.meshing.proofs.model.mesh_model_with_options.Goals as goal

pub returns-in_err-job-clause-model : goal.returns-in_err-job-clause-model
returns-in_err-job-clause-model c = model_refused _ _ _ _ _ _ _ _ _ c.in_err-job.ensures.fault (grind (arith, common_steps))

pub returns-clause-model : goal.returns-clause-model
returns-clause-model c =
    let j = c.in_ok-job.ensures in
    let rows = (rw (ap (λ (r : Regions). length r.kinds) j.job.0, j.job.0, j.job.1, j.job.2, j.job.3, j.job.4) at c.mesh_rows.ensures.rows) in
    model_done _ _ _ _ _ _ _ _ j.fault rows
