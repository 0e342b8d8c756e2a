use mathlib.Core.Path.{◌≡◌}
use lib.ListN.{get_or}
use Rattle.lists.proofs.Fills.{Elems}
use Rattle.openrdson_core.specs.Mesh.{Same}
use Rattle.meshing.specs.Welds as spec
use Rattle.meshing.proofs.weld.Keyed.write_places.Given as goal

abbrev pub invariant-loop-t : goal.invariant-loop-t
invariant-loop-t l = let n = l.self.nodes in
    let o = l.initial.out in
    Elems o.places.now 0 (λ j. spec.renumbered l.self.tolerance n.xs.now n.ys.now n.zs.now (get_or l.places j 0)) l.t l.out.places.now
    × (l.out.xs.now ≡ o.xs.now) × (l.out.ys.now ≡ o.ys.now) × (l.out.zs.now ≡ o.zs.now) × (l.out.kinds.now ≡ o.kinds.now) × (l.out.regions.now ≡ o.regions.now) × Same o l.out
