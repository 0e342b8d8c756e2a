use mathlib.Core.Path.{◌≡◌}
use Rattle.lists.specs.Lists.{fold_below}
use Rattle.binary64.specs.Constants.{zero64}
use Rattle.meshing.proofs.VolumeLaws.{with_element}
use Rattle.meshing.proofs.volume.volume_of_elements.Given as goal

abbrev pub invariant-loop-e : goal.invariant-loop-e
invariant-loop-e l = let m = l.mesh.mesh.lists in l.sum ≡ fold_below l.e (with_element m.xs.now m.ys.now m.zs.now m.kinds.now m.places.now) zero64
