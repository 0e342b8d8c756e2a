-- A turn is one entry.
use Rattle.std.proofs.Common.{◌<◌, arith}
use Rattle.lists.proofs.Scans.{all_start, all_more}
use Rattle.openrdson_core.proofs.area.largest_half.Goals as goal

pub loop-k-init : goal.loop-k-init
loop-k-init c = λ h. (h, all_start _)

pub loop-k-preserved : goal.loop-k-preserved
loop-k-preserved c = λ h.
    let a : c.loop-k.most < 0x4130_0000 = omega (arith, h, c.max-most.ensures) in
    let b : c.upper_half.result < 0x4130_0000 = omega (arith, h, c.max-most.ensures) in
    let w = c.loop-k.invariant a in
    (w.0, all_more _ c.loop-k.k w.1 (c.upper_half.ensures b))
