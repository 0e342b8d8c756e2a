use Rattle.std.proofs.Common.{◌≡◌, ◌&&◌}
use Rattle.std.specs.Float.Ieee.{le}
use Rattle.lists.specs.Lists.{all_below}
use Rattle.binary64.specs.Numbers.{at, abs}
use Rattle.openrdson_core.proofs.points.Points.is_within.Given as goal

abbrev pub invariant-loop-i : goal.invariant-loop-i
invariant-loop-i l = l.fine ≡ all_below l.i (λ k. le (abs (at l.self.xs.now k)) l.limit && le (abs (at l.self.ys.now k)) l.limit)
