-- `mesh_rows` meets its contract: its loop is `Running`. Assumes nothing.
use Rattle.std.proofs.Common.{◌≡◌, ◌∙◌, arith}
use Rattle.std.proofs.lemmas.Grind.{common_steps}
use Rattle.lists.specs.Answer.{status}
use Rattle.openrdson_core.specs.Answers.{answer}
use Rattle.meshing.proofs.ModelLaws.{running_start, running_more, unwrapped}
use Rattle.meshing.proofs.model.Job.mesh_rows.Goals as goal
use Rattle.meshing.proofs.model.Job.mesh_rows.Goals.{in-Ok, in-Err}

pub loop-i-init : goal.loop-i-init
loop-i-init c = (running_start _ _ _ _ _ _ _ _, search)

pub loop-i-preserved : goal.loop-i-preserved
loop-i-preserved c = let g = c.mesh_row-meshed in
    let number : c.match-meshed.diagnostics ≡ status (answer g.result) = elim c.match-meshed.branch [ in-Ok w ↦ grind (arith, common_steps) | in-Err w ↦ grind (arith, common_steps) ] in
    (running_more _ _ _ _ _ _ _ c.loop-i.invariant.0 (omega (arith, c.requires)) g.ensures.mesh (c.unwrap_or-so_far.ensures ∙ unwrapped g.result c.loop-i.so_far) number, search)
