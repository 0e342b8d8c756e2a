use Rattle.std.proofs.Common.{◌-◌}
use Rattle.meshing.proofs.ScanlineLaws.{InHand, Writing}
use Rattle.meshing.proofs.scanline.write_bands.Given as goal

abbrev pub invariant-loop-k : goal.invariant-loop-k
invariant-loop-k l = InHand l.ring.ys.now l.below l.count l.edges × Writing l.ring.xs.now l.ring.ys.now l.levels (l.k - 1) l.p l.place l.initial.nx l.initial.ny l.nx l.ny
