-- A turn is eight points more.
use Rattle.std.proofs.Common.{sym, ◌∙◌, arith}
use Rattle.openrdson_core.proofs.BoundLaws.{held_first}
use Rattle.openrdson_core.proofs.bounds.held_to.Goals as goal

pub loop-turn-preserved : goal.loop-turn-preserved
loop-turn-preserved c =
    (omega (arith, c.loop-turn.invariant.0), held_first c.args.ring.xs.now c.args.ring.ys.now c.loop-turn.held 8 c.loop-turn.invariant.1 (sym c.holds_eight.ensures ∙ c.if-not-holds_eight.false))
