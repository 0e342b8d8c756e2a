use Rattle.std.proofs.Common.{◌-◌}
use Rattle.meshing.proofs.ScanlineLaws.{InHand, Tallying}
use Rattle.meshing.proofs.scanline.tally_bands.Given as goal

abbrev pub invariant-loop-k : goal.invariant-loop-k
invariant-loop-k l = InHand l.ring.ys.now l.below l.count l.edges × Tallying l.ring.xs.now l.ring.ys.now l.levels (l.k - 1) l.t
