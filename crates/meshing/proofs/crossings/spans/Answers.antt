-- `spans` meets its contract. Assumes nothing.
use mathlib.Core.Bool.{xor}
use Rattle.meshing.specs.Crossings.{spans}
use Rattle.meshing.proofs.crossings.spans.Goals as goal

pub returns : goal.returns
unfolding spans xor
returns c = rw (← c.next_place-f.ensures.0)
