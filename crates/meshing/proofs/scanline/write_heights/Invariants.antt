use Rattle.lists.proofs.Fills.{Runs}
use Rattle.meshing.specs.Scanline.{quad_zs}
use Rattle.meshing.proofs.scanline.write_heights.Given as goal

abbrev pub invariant-loop-i : goal.invariant-loop-i
invariant-loop-i l = Runs l.initial.nz l.p (λ _. quad_zs l.low l.high) 8 l.i l.nz
