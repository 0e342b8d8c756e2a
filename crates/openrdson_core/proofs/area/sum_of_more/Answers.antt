-- A turn is eight edges, and their points, which are in range.
use Rattle.std.proofs.Common.{sym, ◌∙◌, arith}
use Rattle.openrdson_core.proofs.SumLaws.{range_more}
use Rattle.openrdson_core.proofs.area.sum_of_more.Goals as goal

pub loop-turn-preserved : goal.loop-turn-preserved
loop-turn-preserved c = (
  omega (arith, c.loop-turn.invariant.0),
  record {
    total = c.add_eight-sum.ensures;
    noted = range_more c.args.ring.xs.now c.args.ring.ys.now c.loop-turn.done.count 8 c.loop-turn.invariant.1.noted (sym c.if-not-are_in_range.false ∙ c.are_in_range.ensures);
  },
)
