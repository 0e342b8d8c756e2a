use Rattle.std.proofs.Common.{◌*◌}
use Rattle.lists.specs.Lists.{runs}
use Rattle.meshing.specs.Grid.{hex_at}
use Rattle.lists.proofs.Fills.{Runs}
use Rattle.meshing.proofs.grid.write_hexes.Given as goal

abbrev pub invariant-loop-k : goal.invariant-loop-k
invariant-loop-k l = Runs l.initial.places l.at (λ k. runs l.cells.ny (λ j. runs l.cells.nx (λ i. hex_at l.base l.cells.nx l.cells.ny i j k))) (l.cells.ny * (l.cells.nx * 8)) l.k l.places
