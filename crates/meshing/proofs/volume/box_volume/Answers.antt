-- `box_volume` meets its contract: six folds in one loop. Assumes nothing.
use Rattle.std.proofs.Common.{◌≡◌, ap, length, arith}
use Rattle.openrdson_core.specs.declared.mesh.Point3.{Point3}
use Rattle.meshing.specs.Volumes as spec
use Rattle.meshing.proofs.VolumeLaws.{reach_start, reach_more, reach_end}
use Rattle.meshing.proofs.volume.box_volume.Goals as goal

pub loop-k-init : goal.loop-k-init
loop-k-init c = let e = c.args.element in
    let places = e.used.now in
    (reach_start e.nodes.xs.now places c.new-x.ensures, reach_start e.nodes.ys.now places c.new-y.ensures, reach_start e.nodes.zs.now places c.new-z.ensures)

pub loop-k-preserved : goal.loop-k-preserved
loop-k-preserved c = let e = c.args.element in
    let places = e.used.now in
    let v = c.loop-k in
    let is = c.node-node.ensures in (
      reach_more e.nodes.xs.now places v.k v.invariant.0 (ap (λ (p : Point3). p.x) is) c.with-x.ensures,
      reach_more e.nodes.ys.now places v.k v.invariant.1 (ap (λ (p : Point3). p.y) is) c.with-y.ensures,
      reach_more e.nodes.zs.now places v.k v.invariant.2 (ap (λ (p : Point3). p.z) is) c.with-z.ensures,
    )

pub returns : goal.returns
unfolding spec.box_volume
returns c = let e = c.args.element in
    let places = e.used.now in
    let v = c.loop-k in
    let all : v.k ≡ length places = omega arith in
    rw (
      reach_end e.nodes.xs.now places v.invariant.0 all c.length.ensures,
      reach_end e.nodes.ys.now places v.invariant.1 all c.length-2.ensures,
      reach_end e.nodes.zs.now places v.invariant.2 all c.length-3.ensures,
    )
