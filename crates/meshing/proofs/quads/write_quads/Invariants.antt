use Rattle.std.proofs.Common.{◌*◌, drop}
use Rattle.meshing.specs.Quads.{quads_between}
use Rattle.meshing.proofs.QuadLaws.{Sofar}
use Rattle.meshing.proofs.quads.write_quads.Given as goal

abbrev pub invariant-loop-left : goal.invariant-loop-left
invariant-loop-left l = Sofar (quads_between l.edges.ring.xs.now l.edges.ring.ys.now l.band l.edges.numbers.now) (quads_between l.edges.ring.xs.now l.edges.ring.ys.now l.band (drop (l.left-index * 2) l.edges.numbers.now)) l.p l.at l.initial.nx l.initial.ny l.nx l.ny
