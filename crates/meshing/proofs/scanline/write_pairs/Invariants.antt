use Rattle.std.proofs.Common.{◌+◌, ◌*◌}
use Rattle.lists.proofs.Fills.{Runs}
use Rattle.meshing.specs.Scanline.{quad_places}
use Rattle.meshing.proofs.scanline.write_pairs.Given as goal

abbrev pub invariant-loop-i : goal.invariant-loop-i
invariant-loop-i l = Runs l.initial.places l.p (λ i. quad_places (l.base + i * 8)) 16 l.i l.places
