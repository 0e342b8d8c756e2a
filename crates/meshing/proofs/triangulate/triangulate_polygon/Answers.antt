-- `triangulate_polygon` meets its contract: a law a refusal, then the checked ring; and what is written is a triangulation. Assumes nothing.
use Rattle.std.proofs.Common.{refl, sym, length}
use Rattle.std.proofs.lemmas.Result.{err_from_is_err_and}
use Rattle.meshing.specs.Ring.{kept}
use Rattle.meshing.specs.Triangulate.{Leaves, cutting}
use Rattle.meshing.proofs.TriangulateLaws.{lists_uneven, ring_refused, ring_fine, refused_leaves, same_leaves, leaves_triangulation}
use Rattle.meshing.proofs.triangulate.triangulate_polygon.Goals as goal

pub returns-then-out_x-out_y : goal.returns-then-out_x-out_y
returns-then-out_x-out_y c = record { leaves = refused_leaves _ (lists_uneven _ _ _ _ _ c.if-out_x-out_y.true) refl; triangulation = tt }

pub returns-in_err-ring : goal.returns-in_err-ring
returns-in_err-ring c =
    let p = err_from_is_err_and c.from_residual.result c.from_residual.ensures.1 in
    rw (p.1, p.2) (record { leaves = refused_leaves _ (ring_refused _ _ _ _ _ c.if-out_x-out_y.false (sym c.in_err-ring.ensures.fault)) refl; triangulation = tt })

pub returns : goal.returns
returns c = let a = c.args in
    let r = c.in_ok-ring.ensures in
    let f = ring_fine _ _ _ _ _ c.if-out_x-out_y.false (sym r.fault) in
    let t = c.triangulate_sound in
    let written : Leaves (cutting a.xs.now a.ys.now (length a.out_x.now) (length a.out_corners.now) (kept a.xs.now a.ys.now)) a.xs.now a.ys.now a.out_x.now a.out_y.now a.out_corners.now t.result t.new.out_x t.new.out_y t.new.out_corners = rw (← r.lists.0, ← r.lists.1) t.ensures in
    record { leaves = same_leaves (sym f) written; triangulation = leaves_triangulation _ _ _ _ _ _ _ f written }
