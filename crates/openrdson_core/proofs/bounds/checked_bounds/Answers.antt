-- The bounds of the first four points, or the first four are refused.
use Rattle.std.proofs.Common.{rules, sym, ap, ◌∙◌, arith}
use Rattle.openrdson_core.specs.Answers.{answer}
use Rattle.openrdson_core.proofs.BoundLaws.{none_first, first_refused, given_first}
use Rattle.openrdson_core.proofs.bounds.checked_bounds.Goals as goal

pub bounds_to-requires-clause-begun : goal.bounds_to-requires-clause-begun
bounds_to-requires-clause-begun c = none_first c.args.ring.xs.now c.args.ring.ys.now c.empty.ensures

pub bounds_to-requires-2-clause-begun : goal.bounds_to-requires-2-clause-begun
bounds_to-requires-2-clause-begun c = none_first c.args.ring.xs.now c.args.ring.ys.now c.empty-2.ensures

pub returns-in_err-first : goal.returns-in_err-first
returns-in_err-first c = first_refused c.args.ring.xs.now c.args.ring.ys.now 4 (omega (arith, c.if-count-le16.false)) (sym c.bounds_to-2.ensures ∙ ap answer c.in_err-first.was) (search rules)

pub held_to-held-requires-clause-begun : goal.held_to-held-requires-clause-begun
held_to-held-requires-clause-begun c = given_first c.args.ring.xs.now c.args.ring.ys.now 4 (sym c.bounds_to-2.ensures ∙ ap answer c.in_ok-first.was)
