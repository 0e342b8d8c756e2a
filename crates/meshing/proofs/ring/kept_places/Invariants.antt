use Rattle.meshing.proofs.RingLaws.{Keeping}
use Rattle.meshing.proofs.ring.kept_places.Given as goal

abbrev pub invariant-loop-i : goal.invariant-loop-i
invariant-loop-i l = Keeping l.ring.xs.now l.ring.ys.now l.i l.count l.places l.last
