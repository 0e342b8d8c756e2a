-- `largest_size` meets its contract: the loop takes on the larger of two. Assumes nothing.
use Rattle.std.proofs.Common.{arith}
use Rattle.lists.proofs.Folds.{fold_start}
use Rattle.meshing.proofs.RectLaws.{size_more, size_end}
use Rattle.meshing.proofs.rectilinear.largest_size.Goals as goal

pub loop-i-init : goal.loop-i-init
loop-i-init c = fold_start _ _

pub loop-i-preserved : goal.loop-i-preserved
loop-i-preserved c = size_more c.args.ring.xs.now c.args.ring.ys.now c.loop-i.i c.loop-i.invariant c.abs.ensures c.larger.ensures c.abs-in-loop-i.ensures c.larger-size.ensures

pub returns : goal.returns
returns c = size_end c.args.ring.xs.now c.args.ring.ys.now c.loop-i.invariant (omega arith)
