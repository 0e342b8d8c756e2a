-- `triangulate_sound` meets its contract: the ring cleaned, clipped and written. Assumes nothing.
use Rattle.std.proofs.Common.{◌∙◌, refl, ap, length, arith}
use Rattle.std.specs.Float.{nan}
use Rattle.std.proofs.lemmas.Grind.{common_steps}
use Rattle.lists.proofs.Places.{gather_length}
use Rattle.meshing.specs.Ring.{kept}
use Rattle.meshing.proofs.TriangulateLaws.{too_few, refused_leaves, same_leaves, leaves_gathered, cut_stalled, cut_done}
use Rattle.meshing.proofs.triangulate.triangulate_sound.Goals as goal

pub returns-then-ring-lt3 : goal.returns-then-ring-lt3
returns-then-ring-lt3 c = let n = c.clean_into-ring in
    let many = ap length n.ensures.kept_x ∙ gather_length nan c.args.sound.ring.xs.now (kept c.args.sound.ring.xs.now c.args.sound.ring.ys.now) in
    refused_leaves _ (too_few _ _ _ _ _ (omega (arith, many))) refl

pub returns-in_err-corners : goal.returns-in_err-corners
returns-in_err-corners c = let n = c.clean_into-ring.ensures in
    refused_leaves _ (cut_stalled _ _ _ _ _ _ n.kept_x n.kept_y c.in_err-corners.ensures) (grind (arith, common_steps))

pub returns : goal.returns
returns c = let a = c.args in
    let n = c.clean_into-ring.ensures in
    same_leaves (cut_done _ _ _ _ _ _ n.kept_x n.kept_y _ c.in_ok-corners.ensures) (leaves_gathered a.sound.ring.xs.now a.sound.ring.ys.now _ _ (kept a.sound.ring.xs.now a.sound.ring.ys.now) _ n.kept_x n.kept_y c.write_cutting.ensures)
