use Rattle.meshing.proofs.VolumeLaws.{Reaches}
use Rattle.meshing.proofs.volume.box_volume.Given as goal

abbrev pub invariant-loop-k : goal.invariant-loop-k
invariant-loop-k l = let e = l.element in Reaches e.nodes.xs.now e.used.now l.k l.x × Reaches e.nodes.ys.now e.used.now l.k l.y × Reaches e.nodes.zs.now e.used.now l.k l.z
