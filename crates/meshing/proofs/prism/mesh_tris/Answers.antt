-- `mesh_tris` meets its contract: room is found, then each list is written. Assumes nothing.
use Rattle.std.proofs.Common.{sym, ◌∙◌}
use Rattle.openrdson_core.specs.Mesh.{held}
use Rattle.meshing.proofs.BoxWrites.{same_adds}
use Rattle.meshing.proofs.PrismLaws.{tris_fit, tris_adds}
use Rattle.meshing.proofs.Rooms.{room_in}
use Rattle.meshing.proofs.prism.mesh_tris.Goals as goal

pub returns-clause-mesh : goal.returns-clause-mesh
returns-clause-mesh c = let a = c.args in
    let r = a.extrusion.ring.ring in
    let h = a.extrusion.heights in
    let l = a.lists.now in
    let whole = a.corners.whole in
    let room = room_in _ _ _ _ _ _ _ _ _ c.requires.grows.lists (sym c.has_room.ensures ∙ c.if-not-has_room.false) (sym c.has_room-2.ensures ∙ c.if-not-has_room-2.false) in
    same_adds
    (sym (tris_fit a.counts (held l) h.bottom h.top r.xs.now r.ys.now a.corners.places.now whole c.has_room.ensures c.if-not-has_room.false c.has_room-2.ensures c.if-not-has_room-2.false))
    (tris_adds a.counts (held l) h.bottom h.top r.xs.now r.ys.now a.corners.places.now whole a.region (sym r.even) room c.copy.ensures c.copy-2.ensures c.copy-3.ensures c.copy-4.ensures c.fill.ensures c.fill-2.ensures (rw c.from-prism.ensures at c.fill-3.ensures) c.write_prisms.ensures c.fill-4.ensures)
