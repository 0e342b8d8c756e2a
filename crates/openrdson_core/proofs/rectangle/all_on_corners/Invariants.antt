use Rattle.std.proofs.Common.{◌≡◌}
use Rattle.lists.specs.Lists.{all_below}
use Rattle.openrdson_core.specs.Points.{point_at}
use Rattle.openrdson_core.specs.Rectangle.{on_some_corner}
use Rattle.openrdson_core.proofs.rectangle.all_on_corners.Given as goal

abbrev pub invariant-loop-i : goal.invariant-loop-i
invariant-loop-i l = l.fine ≡ all_below l.i (λ k. on_some_corner l.bounds l.eps (point_at l.ring.xs.now l.ring.ys.now k))
