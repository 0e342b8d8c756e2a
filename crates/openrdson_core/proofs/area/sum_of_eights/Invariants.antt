use Rattle.std.proofs.Common.{◌≡◌, ◌*◌, true}
use Rattle.openrdson_core.specs.Sums.{Summed}
use Rattle.openrdson_core.proofs.area.sum_of_eights.Given as goal

abbrev pub invariant-loop-turn : goal.invariant-loop-turn
invariant-loop-turn l = (l.done.count ≡ 8 * l.turn) × Summed l.ring.xs.now l.ring.ys.now (8 * l.turn) l.done.sum true
