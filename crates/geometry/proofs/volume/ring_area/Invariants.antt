use Rattle.std.proofs.Common.{◌*◌}
use Rattle.std.specs.Prelude.{true}
use Rattle.openrdson_core.proofs.Areas.{Summing}
use Rattle.geometry.proofs.volume.ring_area.Given as goal

abbrev pub invariant-loop-turn : goal.invariant-loop-turn
invariant-loop-turn l = Summing l.ring.xs.now l.ring.ys.now (2 * l.turn) l.sum true
