use Rattle.meshing.proofs.WeldLaws.{Writing}
use Rattle.meshing.proofs.weld.Keyed.write_kept.Given as goal

abbrev pub invariant-loop-i : goal.invariant-loop-i
invariant-loop-i l = Writing l.self.tolerance l.nodes.xs.now l.nodes.ys.now l.nodes.zs.now l.initial.xs l.initial.ys l.initial.zs l.i l.count l.xs l.ys l.zs
