use Rattle.meshing.specs.Cells.{axis_at}
use Rattle.lists.proofs.Fills.{Elems}
use Rattle.meshing.proofs.grid.node_row.Given as goal

abbrev pub invariant-loop-i : goal.invariant-loop-i
invariant-loop-i l = Elems l.initial.xs l.at (axis_at l.x.low l.x.high l.x.cells) l.i l.xs × Elems l.initial.ys l.at (λ _. l.y) l.i l.ys × Elems l.initial.zs l.at (λ _. l.z) l.i l.zs
