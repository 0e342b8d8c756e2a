use Rattle.lists.proofs.Fills.{Elems}
use Rattle.openrdson_core.specs.SoundBlocks.{sound_bytes}
use Rattle.geometry.specs.Plans.{row_plan}
use Rattle.geometry.proofs.table.fill_plans.Given as goal

abbrev pub invariant-loop-i : goal.invariant-loop-i
invariant-loop-i l = Elems l.initial.plans 0 (row_plan (sound_bytes l.blocks)) l.i l.plans
