-- `write_cutting` meets its contract: a law a refusal, then the lists written. Assumes nothing.
use Rattle.std.proofs.Common.{refl, sym, ap, ◌∙◌, length, arith}
use Rattle.std.specs.Float.{nan}
use Rattle.lists.specs.Lists.{put, elems}
use Rattle.lists.proofs.Fills.{elems_length}
use Rattle.lists.proofs.Places.{gather_all}
use Rattle.meshing.specs.Triangles.{triples}
use Rattle.meshing.proofs.TriangulateLaws.{no_ring_room, no_corner_room, has_room, refused_leaves, given_leaves, corners_length}
use Rattle.meshing.proofs.triangulate.write_cutting.Goals as goal

pub returns-then-ring-out_x : goal.returns-then-ring-out_x
returns-then-ring-out_x c = refused_leaves _ (no_ring_room _ _ _ _ (omega (arith, elems_length (λ i. i) (length c.args.ring.xs.now)))) refl

pub returns-then-corners-out_corners : goal.returns-then-corners-out_corners
returns-then-corners-out_corners c = refused_leaves _ (no_corner_room _ _ _ _ (omega (arith, elems_length (λ i. i) (length c.args.ring.xs.now))) (omega (arith, ap length c.args.corners.whole))) refl

pub returns : goal.returns
returns c = let a = c.args in
    let n = length a.ring.xs.now in
    let e = ap length c.args.corners.whole in
    let t = triples a.corners.places.now in
    let long = elems_length (λ i. i) n in
    given_leaves _ (elems n (λ i. i)) t (has_room _ _ _ _ (omega (arith, long)) (omega (arith, e))) (sym long) (omega (arith, e, corners_length t))
    (c.copy.ensures ∙ ap (put a.out_x.now 0) (sym (gather_all nan a.ring.xs.now n refl)))
    (c.copy-2.ensures ∙ ap (put a.out_y.now 0) (sym (gather_all nan a.ring.ys.now n a.ring.even)))
    (c.copy-3.ensures ∙ ap (put a.out_corners.now 0) (sym c.args.corners.whole))
