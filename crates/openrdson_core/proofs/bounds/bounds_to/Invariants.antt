use Rattle.std.proofs.Common.{◌≡◌}
use Rattle.lists.specs.Lists.{all_below, fold_below}
use Rattle.openrdson_core.specs.Points.{point_at, point_in}
use Rattle.openrdson_core.specs.Bounds.{extend_point, empty_bbox}
use Rattle.openrdson_core.proofs.bounds.bounds_to.Given as goal

abbrev pub invariant-loop-i : goal.invariant-loop-i
invariant-loop-i l =
    (l.fine ≡ all_below l.i (λ k. point_in (point_at l.ring.xs.now l.ring.ys.now k)))
    × (l.bounds ≡ fold_below l.i (λ b k. extend_point b (point_at l.ring.xs.now l.ring.ys.now k)) empty_bbox)
