use Rattle.std.proofs.Common.{length}
use Rattle.meshing.specs.Ears.{is_ear}
use Rattle.meshing.proofs.ClipLaws.{Run}
use Rattle.meshing.proofs.ears.clip_walk.Given as goal

abbrev pub invariant-loop-at : goal.invariant-loop-at
invariant-loop-at l = Run (is_ear l.ring.xs.now l.ring.ys.now) (length l.ring.xs.now) l.initial.walk l.walk l.out l.at
