use Rattle.std.proofs.Common.{get_or}
use Rattle.std.specs.Float.{nan}
use Rattle.lists.proofs.Fills.{Elems}
use Rattle.meshing.proofs.ring.gather_into.Given as goal

abbrev pub invariant-loop-i : goal.invariant-loop-i
invariant-loop-i l = Elems l.initial.out 0 (λ j. get_or l.l (get_or l.places j 0) nan) l.i l.out
