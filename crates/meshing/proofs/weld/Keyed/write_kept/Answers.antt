-- `write_kept` meets its contract: the loop writes the nodes kept of those passed, one after the other. Assumes nothing.
use Rattle.std.proofs.Common.{arith}
use Rattle.meshing.proofs.WeldLaws.{write_start, write_room, write_more, write_skips}
use Rattle.meshing.proofs.weld.Keyed.write_kept.Goals as goal
use Rattle.meshing.proofs.weld.Keyed.write_kept.Goals.{else-is_first, then-is_first}

pub loop-i-init : goal.loop-i-init
loop-i-init c = write_start _ _ _ _ _ _ _

pub offset_bounds-xs-count : goal.offset_bounds-xs-count
offset_bounds-xs-count c = let r = write_room _ _ _ _ _ _ _ c.loop-i.invariant c.requires.0 c.loop-i-test.true c.is_first.ensures c.if-is_first.true in omega arith

pub bounds-xs-count : goal.bounds-xs-count
bounds-xs-count c = let r = write_room _ _ _ _ _ _ _ c.loop-i.invariant c.requires.0 c.loop-i-test.true c.is_first.ensures c.if-is_first.true in omega arith

pub offset_bounds-ys-count : goal.offset_bounds-ys-count
offset_bounds-ys-count c = let r = write_room _ _ _ _ _ _ _ c.loop-i.invariant c.requires.0 c.loop-i-test.true c.is_first.ensures c.if-is_first.true in omega arith

pub bounds-ys-count : goal.bounds-ys-count
bounds-ys-count c = let r = write_room _ _ _ _ _ _ _ c.loop-i.invariant c.requires.0 c.loop-i-test.true c.is_first.ensures c.if-is_first.true in omega arith

pub offset_bounds-zs-count : goal.offset_bounds-zs-count
offset_bounds-zs-count c = let r = write_room _ _ _ _ _ _ _ c.loop-i.invariant c.requires.0 c.loop-i-test.true c.is_first.ensures c.if-is_first.true in omega arith

pub bounds-zs-count : goal.bounds-zs-count
bounds-zs-count c = let r = write_room _ _ _ _ _ _ _ c.loop-i.invariant c.requires.0 c.loop-i-test.true c.is_first.ensures c.if-is_first.true in omega arith

pub overflow_add-count : goal.overflow_add-count
overflow_add-count c = let r = write_room _ _ _ _ _ _ _ c.loop-i.invariant c.requires.0 c.loop-i-test.true c.is_first.ensures c.if-is_first.true in omega arith

pub loop-i-preserved : goal.loop-i-preserved
loop-i-preserved c = let t = c.args.self.tolerance in
    let n = c.args.self.nodes in
    let o = c.args.out.now in
    let v = c.loop-i in
    let e = c.is_first.ensures in
    let p = c.requires in
    elim c.if-is_first.branch [ then-is_first w ↦ write_more t n.xs.now n.ys.now n.zs.now o.xs.now o.ys.now o.zs.now v.invariant e w.if-is_first.true (write_room t n.xs.now n.ys.now n.zs.now o.xs.now o.ys.now o.zs.now v.invariant p.0 c.loop-i-test.true e w.if-is_first.true) p.1 p.2 w.xs-is w.ys-is w.zs-is w.count-is | else-is_first w ↦ write_skips t n.xs.now n.ys.now n.zs.now o.xs.now o.ys.now o.zs.now v.invariant e w.if-is_first.false w.xs-is w.ys-is w.zs-is w.count-is ]
