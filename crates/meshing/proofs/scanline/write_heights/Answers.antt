-- `write_heights` meets its contract: each turn writes the eight heights of a quad. Assumes nothing.
use Rattle.std.proofs.Common.{refl, arith}
use Rattle.lists.proofs.Fills.{no_runs, one_run}
use Rattle.meshing.proofs.scanline.write_heights.Goals as goal

pub loop-i-init : goal.loop-i-init
loop-i-init c = no_runs _ _ _ _

pub loop-i-preserved : goal.loop-i-preserved
loop-i-preserved c = one_run c.loop-i.invariant c.write_eight.ensures (λ i. refl) refl (omega arith)
