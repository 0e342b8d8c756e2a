-- A turn is eight edges, and the upper halves of their points.
use Rattle.std.proofs.Common.{◌≡◌, refl, sym, ap, ◌∙◌, ℕ, ◌+◌, ◌*◌, arith}
use Rattle.lists.specs.Lists.{all_below}
use Rattle.lists.proofs.Scans.{all_start}
use Rattle.binary64.proofs.NotNumbers.{same_number}
use Rattle.openrdson_core.specs.Points.{point_at, point_in}
use Rattle.openrdson_core.specs.Area.{shoelace}
use Rattle.openrdson_core.proofs.Areas.{sum_start}
use Rattle.openrdson_core.proofs.SumLaws.{numbers_of, range_both, range_more}
use Rattle.openrdson_core.proofs.area.sum_of_eights.Goals as goal

pub loop-turn-init : goal.loop-turn-init
loop-turn-init c = (refl, record { total = sum_start c.args.ring.xs.now c.args.ring.ys.now; noted = sym (all_start (λ k. point_in (point_at c.args.ring.xs.now c.args.ring.ys.now k))) })

pub largest_half-of_xs-requires-clause-numbers : goal.largest_half-of_xs-requires-clause-numbers
largest_half-of_xs-requires-clause-numbers c = (numbers_of c.args.ring.xs.now c.args.ring.ys.now (8 * c.loop-turn.turn) 8 c.add_eight-sum.ensures (same_number c.add_eight-sum.result c.if-sum.false)).0

pub largest_half-requires-clause-numbers : goal.largest_half-requires-clause-numbers
largest_half-requires-clause-numbers c = (numbers_of c.args.ring.xs.now c.args.ring.ys.now (8 * c.loop-turn.turn) 8 c.add_eight-sum.ensures (same_number c.add_eight-sum.result c.if-sum.false)).1

pub loop-turn-preserved : goal.loop-turn-preserved
loop-turn-preserved c =
    let xs = c.args.ring.xs.now in
    let ys = c.args.ring.ys.now in
    let i : ℕ = 8 * c.loop-turn.turn in
    let e : i + 8 ≡ 8 * (c.loop-turn.turn + 1) = omega arith in
    let y = c.largest_half.ensures c.if-largest_half-ge1093664768.false in
    let x = c.largest_half-of_xs.ensures y.0 in (
      e,
      record {
        total = c.add_eight-sum.ensures ∙ ap (shoelace xs ys) e;
        noted = range_more xs ys i 8 c.loop-turn.invariant.1.noted (sym (range_both xs ys i 8 x.1 y.1)) ∙ ap (λ (n : ℕ). all_below n (λ k. point_in (point_at xs ys k))) e;
      },
    )
