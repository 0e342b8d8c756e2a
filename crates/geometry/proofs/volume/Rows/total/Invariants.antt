use Rattle.std.proofs.Common.{◌≡◌}
use Rattle.lists.specs.Answer.{given}
use Rattle.geometry.specs.Regions.{listed}
use Rattle.geometry.specs.Volumes.{total_to}
use Rattle.geometry.proofs.volume.Rows.total.Given as goal

abbrev pub invariant-loop-i : goal.invariant-loop-i
invariant-loop-i l = given l.sum ≡ total_to (listed l.self.regions.lists) l.self.points.xs.now l.self.points.ys.now l.i
