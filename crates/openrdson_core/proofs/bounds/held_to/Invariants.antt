use Rattle.std.proofs.Common.{◌≡◌, ◌+◌, ◌*◌}
use Rattle.openrdson_core.specs.Bounds.{FirstBounds}
use Rattle.openrdson_core.proofs.bounds.held_to.Given as goal

abbrev pub invariant-loop-turn : goal.invariant-loop-turn
invariant-loop-turn l = (l.held ≡ 4 + 8 * l._turn) × FirstBounds l.ring.xs.now l.ring.ys.now l.held l.first
