-- `checked` meets its contract: its elements are sound. Assumes nothing.
use Rattle.std.proofs.Common.{length}
use Rattle.meshing.proofs.WholeLaws.{fine_elements}
use Rattle.meshing.proofs.whole.EvenMesh.checked.Goals as goal

pub invariant_of-result : goal.invariant_of-result
invariant_of-result c = let m = c.args.self.lists in
    let w = fine_elements m.kinds.now m.places.now (length m.xs.now) c.in_ok-elements_check.ensures in
    record { known = w.known; inside = w.inside }
