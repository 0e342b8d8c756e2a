use Rattle.std.proofs.Common.{◌≡◌, false}
use Rattle.lists.specs.Lists.{any_below}
use Rattle.openrdson_core.specs.Points.{point_at}
use Rattle.openrdson_core.specs.Rectangle.{on_corner}
use Rattle.openrdson_core.proofs.rectangle.is_taken.Given as goal

abbrev pub invariant-loop-i : goal.invariant-loop-i
invariant-loop-i l = any_below l.i (λ k. on_corner l.corner l.eps (point_at l.ring.xs.now l.ring.ys.now k)) ≡ false
