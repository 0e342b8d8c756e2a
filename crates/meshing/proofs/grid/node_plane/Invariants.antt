use Rattle.std.proofs.Common.{◌+◌}
use Rattle.lists.specs.Lists.{elems}
use Rattle.openrdson_core.specs.Mesh.{held, Same}
use Rattle.meshing.specs.Cells.{axis_at}
use Rattle.meshing.proofs.BoxWrites.{NodeRuns}
use Rattle.meshing.proofs.grid.node_plane.Given as goal

abbrev pub invariant-loop-j : goal.invariant-loop-j
invariant-loop-j l = NodeRuns (held l.initial.lists) l.at (λ j. elems (l.x.cells + 1) (λ i. axis_at l.x.low l.x.high l.x.cells i)) (λ j. elems (l.x.cells + 1) (λ i. axis_at l.y.low l.y.high l.y.cells j)) (λ j. elems (l.x.cells + 1) (λ i. l.z)) (l.x.cells + 1) l.j (held l.lists)
    × Same l.initial.lists l.lists
