use Rattle.std.proofs.Common.{◌≡◌, ◌+◌}
use Rattle.lists.specs.Lists.{all_below}
use Rattle.openrdson_core.specs.Points.{point_at}
use Rattle.openrdson_core.proofs.BoundLaws.{holds}
use Rattle.openrdson_core.proofs.bounds.holds_eight.Given as goal

abbrev pub invariant-loop-k : goal.invariant-loop-k
invariant-loop-k l = l.fine ≡ all_below l.k (λ k. holds l.bounds (point_at l.ring.xs.now l.ring.ys.now (l.from + k)))
