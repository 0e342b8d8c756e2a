use Rattle.std.proofs.Common.{◌<◌, ◌≡◌}
use Rattle.std.specs.Float.Ieee.{le}
use Rattle.lists.proofs.Passing.{Added}
use Rattle.binary64.specs.Numbers.{at}
use Rattle.meshing.specs.Crossings.{new_at}
use Rattle.meshing.proofs.crossings.add_spanning.Given as goal

abbrev pub invariant-loop-e : goal.invariant-loop-e
invariant-loop-e l = (l.e < l.n → l.is_low ≡ le (at l.ys l.e) l.y) × Added (new_at l.ys l.below l.y) (λ e. e) l.initial.edges 0 l.e l.count l.edges
