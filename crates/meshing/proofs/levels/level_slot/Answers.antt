-- `level_slot` meets its contract: what `rposition` answers. Assumes nothing.
use Rattle.std.proofs.Common.{rules, length}
use Rattle.std.specs.Float.Ieee.{lt}
use Rattle.binary64.specs.Numbers.{at}
use Rattle.meshing.proofs.LevelLaws.{slot_last}
use Rattle.meshing.proofs.levels.level_slot.Goals as goal

pub returns : goal.returns
returns c = slot_last (λ j. lt c.args.y (at c.args.l.now j)) (length c.args.l.now) c.rposition.result _ (search rules) (search rules) (search rules) (search rules)
