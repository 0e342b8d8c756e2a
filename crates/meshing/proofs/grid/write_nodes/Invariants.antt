use Rattle.std.proofs.Common.{◌+◌, ◌*◌}
use Rattle.openrdson_core.specs.Mesh.{held, Same}
use Rattle.meshing.specs.Cells.{axis_at}
use Rattle.meshing.specs.Grid.{plane}
use Rattle.meshing.proofs.BoxWrites.{NodeRuns}
use Rattle.meshing.proofs.grid.write_nodes.Given as goal

abbrev pub invariant-loop-k : goal.invariant-loop-k
invariant-loop-k l = NodeRuns (held l.initial.lists) l.at (λ k. plane l.x.cells l.y.cells (λ i j. axis_at l.x.low l.x.high l.x.cells i)) (λ k. plane l.x.cells l.y.cells (λ i j. axis_at l.y.low l.y.high l.y.cells j)) (λ k. plane l.x.cells l.y.cells (λ i j. axis_at l.z.low l.z.high l.z.cells k)) ((l.x.cells + 1) * (l.y.cells + 1)) l.k (held l.lists)
    × Same l.initial.lists l.lists
