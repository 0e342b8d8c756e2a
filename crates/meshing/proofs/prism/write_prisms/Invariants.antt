use Rattle.lists.proofs.Fills.{Runs}
use Rattle.meshing.proofs.PrismLaws.{prism_at}
use Rattle.meshing.proofs.prism.write_prisms.Given as goal

abbrev pub invariant-loop-i : goal.invariant-loop-i
invariant-loop-i l = Runs l.initial.places l.at (prism_at l.base l.n l.corners.places.now) 8 l.i l.places
