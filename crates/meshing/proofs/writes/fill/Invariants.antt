use Rattle.lists.proofs.Fills.{Elems}
use Rattle.meshing.proofs.writes.fill.Given as goal

abbrev pub invariant-loop-i : goal.invariant-loop-i
invariant-loop-i g l = Elems l.initial.out l.at (λ _. l.value) l.i l.out
