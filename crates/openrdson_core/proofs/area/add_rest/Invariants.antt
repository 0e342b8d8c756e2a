use Rattle.std.proofs.Common.{◌≡◌}
use Rattle.openrdson_core.specs.Area.{shoelace}
use Rattle.openrdson_core.proofs.area.add_rest.Given as goal

abbrev pub invariant-loop-i : goal.invariant-loop-i
invariant-loop-i l = l.sum ≡ shoelace l.ring.xs.now l.ring.ys.now l.i
