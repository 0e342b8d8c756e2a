-- Whether all points are in range; then the sum over all edges.
use Rattle.std.proofs.Common.{◌≡◌, sym, ◌∙◌, length, lt-ltb, le-ltb}
use Rattle.openrdson_core.specs.Points.{points_in}
use Rattle.openrdson_core.specs.Area.{signed_area}
use Rattle.openrdson_core.proofs.SumLaws.{range_rest}
use Rattle.openrdson_core.proofs.area.signed_area_of_points.Goals as goal

pub returns-then-not-are_in_range : goal.returns-then-not-are_in_range
returns-then-not-are_in_range c =
    let xs = c.args.ring.xs.now in
    let ys = c.args.ring.ys.now in
    let s = c.sum_of_more-first in
    let r : c.are_in_range.result ≡ points_in xs ys = range_rest xs ys s.result.count s.ensures.inside s.ensures.summed.noted c.are_in_range.ensures in
    rw (sym r ∙ c.if-not-are_in_range.true)

pub returns-then-n-lt3 : goal.returns-then-n-lt3
unfolding signed_area
returns-then-n-lt3 c =
    let xs = c.args.ring.xs.now in
    let ys = c.args.ring.ys.now in
    let s = c.sum_of_more-first in
    let r : c.are_in_range.result ≡ points_in xs ys = range_rest xs ys s.result.count s.ensures.inside s.ensures.summed.noted c.are_in_range.ensures in
    rw (sym r ∙ c.if-not-are_in_range.false, lt-ltb (length xs) 3 c.if-n-lt3.true)

pub returns : goal.returns
unfolding signed_area
returns c =
    let xs = c.args.ring.xs.now in
    let ys = c.args.ring.ys.now in
    let s = c.sum_of_more-first in
    let r : c.are_in_range.result ≡ points_in xs ys = range_rest xs ys s.result.count s.ensures.inside s.ensures.summed.noted c.are_in_range.ensures in
    rw (sym r ∙ c.if-not-are_in_range.false, le-ltb (length xs) 3 c.if-n-lt3.false, c.add_rest-sum.ensures)
