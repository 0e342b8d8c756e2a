use mathlib.Core.Path.{◌≡◌}
use mathlib.Core.Bool.{true}
use Rattle.lists.specs.Lists.{all_below}
use Rattle.meshing.proofs.WholeLaws.{sound_at, inside_at}
use Rattle.meshing.proofs.whole.EvenMesh.elements_check.Given as goal

abbrev pub invariant-loop-e : goal.invariant-loop-e
invariant-loop-e l = let m = l.self.lists in (all_below l.e (sound_at m.kinds.now m.places.now) ≡ true) × (l.inside ≡ all_below l.e (inside_at m.kinds.now m.places.now l.nodes))
