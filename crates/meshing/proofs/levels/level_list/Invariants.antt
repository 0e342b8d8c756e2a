use Prim.Native.Nat.{◌≤◌}
use mathlib.Core.Path.{◌≡◌}
use mathlib.Core.Bool.{true}
use lib.ListN.{take, drop}
use lib.Ieee.{lt}
use Rattle.lists.specs.Lists.{all_of}
use Rattle.lists.specs.Sorts.{sort_onto}
use Rattle.binary64.specs.Numbers.{at_most}
use Rattle.meshing.specs.Levels.{levels, apart}
use Rattle.meshing.proofs.levels.level_list.Given as goal

abbrev pub invariant-loop-i : goal.invariant-loop-i
invariant-loop-i l = (l.count ≤ l.i) × (all_of (at_most 20) (take l.count l.out) ≡ true) × (levels l.ys ≡ apart (sort_onto lt (take l.count l.out) (drop l.i l.ys)))
