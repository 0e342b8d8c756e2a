use Rattle.lists.proofs.Fills.{Elems}
use Rattle.meshing.proofs.triangulate.fill_walk.Given as goal

abbrev pub invariant-loop-i : goal.invariant-loop-i
invariant-loop-i l = Elems l.initial.walk 0 (λ i. i) l.i l.walk
