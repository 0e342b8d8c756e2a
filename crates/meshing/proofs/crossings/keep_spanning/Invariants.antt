use Rattle.lists.proofs.Passing.{Sifted}
use Rattle.meshing.specs.Crossings.{spans}
use Rattle.meshing.proofs.crossings.keep_spanning.Given as goal

abbrev pub invariant-loop-i : goal.invariant-loop-i
invariant-loop-i l = Sifted (spans l.ys l.y) l.initial.edges l.i l.count l.edges
