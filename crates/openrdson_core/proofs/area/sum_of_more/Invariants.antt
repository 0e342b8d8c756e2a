use Rattle.std.proofs.Common.{◌≡◌, ◌+◌, ◌*◌, true}
use Rattle.openrdson_core.specs.Sums.{Summed}
use Rattle.openrdson_core.proofs.area.sum_of_more.Given as goal

abbrev pub invariant-loop-turn : goal.invariant-loop-turn
invariant-loop-turn l = (l.done.count ≡ l.fn.first.count + 8 * l._turn) × Summed l.ring.xs.now l.ring.ys.now l.done.count l.done.sum true
