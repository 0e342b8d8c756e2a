-- `write_places` meets its contract: the loop writes place after place, renumbered. Assumes nothing.
use Rattle.std.proofs.Common.{◌∙◌, ap, refl, arith}
use Rattle.lists.specs.Lists.{put}
use Rattle.lists.proofs.Fills.{no_elems, one_elem, all_elems}
use Rattle.lists.proofs.Stores.{map_elems}
use Rattle.meshing.specs.Welds as spec
use Rattle.meshing.proofs.BoxWrites.{same_mesh}
use Rattle.meshing.proofs.weld.Keyed.write_places.Goals as goal

pub loop-t-init : goal.loop-t-init
loop-t-init c = (no_elems _ _ _, refl, refl, refl, refl, refl, record { xs = refl; ys = refl; zs = refl; kinds = refl; places = refl; regions = refl })

pub loop-t-preserved : goal.loop-t-preserved
loop-t-preserved c = let v = c.loop-t.invariant in
    (one_elem v.0 (omega arith) (omega arith) c.renumbered-number.ensures, v.1, v.2, v.3, v.4, v.5, record { xs = v.6.xs; ys = v.6.ys; zs = v.6.zs; kinds = v.6.kinds; places = v.6.places; regions = v.6.regions })

pub returns-clause-mesh : goal.returns-clause-mesh
returns-clause-mesh c = let n = c.args.self.nodes in
    let v = c.loop-t.invariant in
    same_mesh v.1 v.2 v.3 v.4 (all_elems v.0 (omega arith) ∙ ap (put c.args.out.now.places.now 0) (map_elems (spec.renumbered c.args.self.tolerance n.xs.now n.ys.now n.zs.now) 0 c.args.places.now)) v.5
