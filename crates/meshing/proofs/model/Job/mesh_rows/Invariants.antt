use Rattle.openrdson_core.specs.Mesh.{held, Same}
use Rattle.geometry.specs.Regions.{listed}
use Rattle.meshing.specs.Models.{overrides_of}
use Rattle.meshing.proofs.ModelLaws.{Running}
use Rattle.meshing.proofs.model.Job.mesh_rows.Given as goal

abbrev pub invariant-loop-i : goal.invariant-loop-i
invariant-loop-i l = Running (listed l.self.regions.lists) l.self.points.xs.now l.self.points.ys.now (overrides_of l.self.overrides.lists) l.self.config l.initial.so_far (held l.initial.lists) l.initial.diagnostics l.i l.so_far (held l.lists) l.diagnostics
    × Same l.initial.lists l.lists
