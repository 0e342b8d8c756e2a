use Rattle.meshing.proofs.CrossingLaws.{Sorting}
use Rattle.meshing.proofs.crossings.sort_crossings.Given as goal

abbrev pub invariant-loop-i : goal.invariant-loop-i
invariant-loop-i l = Sorting l.ring.xs.now l.ring.ys.now l.y l.initial.edges l.i l.edges l.at
