-- A first point that is on no corner decides.
use Rattle.std.proofs.Common.{◌∙◌, sym, ap, arith, length}
use Rattle.lists.proofs.Scans.{all_fails}
use Rattle.openrdson_core.specs.Points.{point_at}
use Rattle.openrdson_core.specs.Rectangle.{on_some_corner, fills_corners}
use Rattle.openrdson_core.proofs.Apart.{near_corner, near_at}
use Rattle.openrdson_core.proofs.rectangle.fills_corners.Goals as goal

pub returns-then-not-is_near_corner : goal.returns-then-not-is_near_corner
unfolding fills_corners
returns-then-not-is_near_corner c =
    rw (all_fails (λ k. on_some_corner c.args.bounds c.args.eps (point_at c.args.ring.xs.now c.args.ring.ys.now k)) (length c.args.ring.xs.now) 0 (omega arith)
    (sym (near_at c.args.ring.xs.now c.args.ring.ys.now c.args.bounds c.requires.in_range c.requires.bounds c.args.eps 0 (omega arith))
    ∙ ap (near_corner c.args.bounds c.args.eps) (sym c.point.ensures) ∙ sym c.is_near_corner.ensures ∙ c.if-not-is_near_corner.true))
