use Rattle.std.proofs.Common.{◌≤◌, ◌+◌, ◌*◌, drop}
use Rattle.meshing.specs.Quads.{quads_between}
use Rattle.meshing.proofs.QuadLaws.{Counted}
use Rattle.meshing.proofs.quads.tally_quads.Given as goal

abbrev pub invariant-loop-left : goal.invariant-loop-left
invariant-loop-left l = (l.sum.quads ≤ l.initial.sum.quads + l.left-index * 2) × Counted (quads_between l.edges.ring.xs.now l.edges.ring.ys.now l.band l.edges.numbers.now) (quads_between l.edges.ring.xs.now l.edges.ring.ys.now l.band (drop (l.left-index * 2) l.edges.numbers.now)) l.initial.sum l.sum
