use Rattle.std.proofs.Common.{refl, arith}
use Rattle.lists.proofs.Fills.{one_elem}
use Rattle.meshing.proofs.writes.fill.Goals as goal

pub loop-i-preserved : goal.loop-i-preserved
loop-i-preserved g c = one_elem c.loop-i.invariant refl (omega arith) refl
