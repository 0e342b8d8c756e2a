use Prim.Native.Nat.{◌≤◌}
use mathlib.Core.Path.{◌≡◌}
use mathlib.Core.List.{◌++◌}
use lib.ListN.{length, take, drop}
use Rattle.meshing.specs.Levels.{apart, apart_from}
use Rattle.meshing.proofs.levels.drop_close.Given as goal

abbrev pub invariant-loop-i : goal.invariant-loop-i
invariant-loop-i l = (l.count ≤ l.i) × (apart (take (length l.initial.l) l.initial.l) ≡ take l.count l.l ++ apart_from l.last (drop l.i (take (length l.initial.l) l.l)))
