-- `write_scanline` meets its contract: each list by its writer, where there is room. Assumes nothing.
use Rattle.std.proofs.Common.{◌*◌, refl, sym, length, ◌∙◌}
use Rattle.openrdson_core.specs.Mesh.{held}
use Rattle.openrdson_core.proofs.MeshLaws.{equal_lengths, room_for}
use Rattle.meshing.proofs.BoxWrites.{refused_adds}
use Rattle.meshing.proofs.ScanlineLaws.{scanline_part, decided, bands_room, nodes_out, elements_out, quads_add}
use Rattle.meshing.proofs.scanline.write_scanline.Goals as goal

pub returns-then-not-has_room-clause-mesh : goal.returns-then-not-has_room-clause-mesh
returns-then-not-has_room-clause-mesh c = let a = c.args in
    let r = a.bands.ring.ring in
    let h = a.heights in
    let m = held a.lists.now in
    refused_adds (scanline_part r.xs.now r.ys.now h.bottom h.top a.counts a.region m) (nodes_out r.xs.now r.ys.now h.bottom h.top a.counts a.region m (decided r.xs.now r.ys.now c.requires.decided) (sym c.has_room.ensures ∙ c.if-not-has_room.true)) refl

pub returns-then-not-has_room-2-clause-mesh : goal.returns-then-not-has_room-2-clause-mesh
returns-then-not-has_room-2-clause-mesh c = let a = c.args in
    let r = a.bands.ring.ring in
    let h = a.heights in
    let m = held a.lists.now in
    refused_adds (scanline_part r.xs.now r.ys.now h.bottom h.top a.counts a.region m) (elements_out r.xs.now r.ys.now h.bottom h.top a.counts a.region m (decided r.xs.now r.ys.now c.requires.decided) (sym c.has_room.ensures ∙ c.if-not-has_room.false) (sym c.has_room-2.ensures ∙ c.if-not-has_room-2.true)) refl

pub write_bands-requires-clause-room : goal.write_bands-requires-clause-room
write_bands-requires-clause-room c = let a = c.args in
    let r = a.bands.ring.ring in
    let room = room_for (8 * a.n) a.counts.nodes (length a.lists.now.xs.now) (sym c.has_room.ensures ∙ c.if-not-has_room.false) in
    (bands_room r.xs.now r.ys.now (decided r.xs.now r.ys.now c.requires.decided) a.counts.nodes (length a.lists.now.xs.now) room.1, sym (equal_lengths _ _ _ _ _ _ c.requires.grows.lists).same_ys)

pub returns-clause-mesh : goal.returns-clause-mesh
returns-clause-mesh c = let a = c.args in
    let r = a.bands.ring.ring in
    let h = a.heights in
    quads_add r.xs.now r.ys.now h.bottom h.top a.counts a.region (held a.lists.now) (decided r.xs.now r.ys.now c.requires.decided) (sym c.has_room.ensures ∙ c.if-not-has_room.false) (sym c.has_room-2.ensures ∙ c.if-not-has_room-2.false) c.write_bands.ensures.0 c.write_bands.ensures.1 c.write_heights.ensures (rw c.from-prism.ensures at c.fill.ensures) c.write_pairs.ensures c.fill-2.ensures
