use Rattle.std.proofs.Common.{sym, ap, ◌∙◌}
use Rattle.lists.proofs.Scans.{any_holds}
use Rattle.openrdson_core.specs.Points.{point_at}
use Rattle.openrdson_core.specs.Rectangle.{on_corner}
use Rattle.openrdson_core.proofs.rectangle.is_taken.Goals as goal

pub returns-then-on_corner : goal.returns-then-on_corner
returns-then-on_corner c =
    sym (any_holds (λ k. on_corner c.args.corner c.args.eps (point_at c.args.ring.xs.now c.args.ring.ys.now k)) _ c.loop-i.i c.loop-i-test.true
    (ap (on_corner c.args.corner c.args.eps) (sym c.point.ensures) ∙ sym c.on_corner.ensures ∙ c.if-on_corner.true))
