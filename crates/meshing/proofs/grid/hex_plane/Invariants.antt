use Rattle.std.proofs.Common.{◌*◌}
use Rattle.lists.specs.Lists.{runs}
use Rattle.meshing.specs.Grid.{hex_at}
use Rattle.lists.proofs.Fills.{Runs}
use Rattle.meshing.proofs.grid.hex_plane.Given as goal

abbrev pub invariant-loop-j : goal.invariant-loop-j
invariant-loop-j l = Runs l.initial.places l.at (λ j. runs l.cells.nx (λ i. hex_at l.a l.cells.nx l.cells.ny i j 0)) (l.cells.nx * 8) l.j l.places
