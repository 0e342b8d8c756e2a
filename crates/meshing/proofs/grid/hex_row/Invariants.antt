use Rattle.meshing.specs.Grid.{hex_at}
use Rattle.lists.proofs.Fills.{Runs}
use Rattle.meshing.proofs.grid.hex_row.Given as goal

abbrev pub invariant-loop-i : goal.invariant-loop-i
invariant-loop-i l = Runs l.initial.places l.at (λ i. hex_at l.first l.fn.cells.nx l.fn.cells.ny i 0 0) 8 l.i l.places
