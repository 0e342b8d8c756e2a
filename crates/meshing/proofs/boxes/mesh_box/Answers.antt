-- `mesh_box` meets its contract: judged, then written. Assumes nothing.
use Rattle.std.proofs.Common.{sym, arith}
use Rattle.std.proofs.lemmas.Grind.{common_steps}
use Rattle.meshing.proofs.BoxLaws.{box_is, judged_fits}
use Rattle.meshing.proofs.BoxWrites.{refused_adds, same_adds}
use Rattle.meshing.proofs.boxes.mesh_box.Goals as goal

pub returns-in_err-cells-clause-mesh : goal.returns-in_err-cells-clause-mesh
returns-in_err-cells-clause-mesh c = refused_adds _ (box_is _ _ _ _ _ _ _ (sym c.in_err-cells.ensures)) (grind (arith, common_steps))

pub write_box-requires : goal.write_box-requires
write_box-requires c = judged_fits _ _ _ _ _ _ _ _ _ _ _ _ _ (sym c.in_ok-cells.ensures)

pub returns-clause-mesh : goal.returns-clause-mesh
returns-clause-mesh c = same_adds (sym (box_is _ _ _ _ _ _ _ (sym c.in_ok-cells.ensures))) c.write_box.ensures.mesh
