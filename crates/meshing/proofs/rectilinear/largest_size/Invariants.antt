use mathlib.Core.Path.{◌≡◌}
use Rattle.meshing.proofs.RectLaws.{size_of}
use Rattle.meshing.proofs.rectilinear.largest_size.Given as goal

abbrev pub invariant-loop-i : goal.invariant-loop-i
invariant-loop-i l = l.size ≡ size_of l.ring.xs.now l.ring.ys.now l.i
