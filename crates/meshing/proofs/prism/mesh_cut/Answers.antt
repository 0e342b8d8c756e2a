-- `mesh_cut` meets its contract: the ring is clipped, and meshed by its triangles or by the scanline. Assumes nothing.
use Rattle.std.proofs.Common.{sym}
use Rattle.openrdson_core.specs.Mesh.{held}
use Rattle.meshing.proofs.ScanlineLaws.{sound_ring}
use Rattle.meshing.proofs.PrismLaws.{cut_ring, ring_stuck, ring_triangles, part_adds}
use Rattle.meshing.proofs.prism.mesh_cut.Goals as goal

pub returns-in-Err-clause-mesh : goal.returns-in-Err-clause-mesh
returns-in-Err-clause-mesh g c = let s = c.requires.ring.1 in
    part_adds {m' = held c.mesh_scanline.new.lists} (ring_stuck _ _ s.xs s.ys _ _ _ c.requires.ring.0 (sym c.in-Err.ensures)) c.mesh_scanline.ensures.mesh

pub mesh_tris-requires-clause-ring : goal.mesh_tris-requires-clause-ring
mesh_tris-requires-clause-ring g c = let r = c.args.again.ring in
    let l = c.in-Ok.corners in
    let t = cut_ring r.xs.now r.ys.now l.places.now (sound_ring c.args.again) (sym c.in-Ok.ensures, l.whole) in
    (t.below, t.few)

pub returns-in-Ok-clause-mesh : goal.returns-in-Ok-clause-mesh
returns-in-Ok-clause-mesh g c = let s = c.requires.ring.1 in
    part_adds {m' = held c.mesh_tris.new.lists} (ring_triangles _ _ s.xs s.ys _ _ _ c.requires.ring.0 (sym c.in-Ok.ensures)) c.mesh_tris.ensures.mesh
