use Rattle.std.proofs.Common.{◌≡◌}
use Rattle.lists.specs.Answer.{given}
use Rattle.geometry.specs.Polygons.{parts_fault}
use Rattle.geometry.proofs.polygons.Polygons.parts_check.Given as goal

abbrev pub invariant-loop-i : goal.invariant-loop-i
invariant-loop-i l = given tt ≡ parts_fault l.self.xs.now l.self.ys.now l.self.starts.now l.self.counts.now l.i
