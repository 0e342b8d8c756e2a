-- `mesh_again` meets its contract: a ring of fewer than three points goes to the scanline, any other is clipped. Assumes nothing.
use Rattle.meshing.proofs.PrismLaws.{ring_stuck, part_adds}
use Rattle.meshing.proofs.TriangulateLaws.{ring_few}
use Rattle.meshing.proofs.prism.mesh_again.Goals as goal

pub returns-then-n-lt3-clause-mesh : goal.returns-then-n-lt3-clause-mesh
returns-then-n-lt3-clause-mesh c = let a = c.args in
    let r = a.extrusion.ring.ring in
    let h = a.extrusion.heights in
    let s = c.requires.ring.1 in
    part_adds (ring_stuck r.xs.now r.ys.now s.xs s.ys a.counts.nodes h.bottom h.top c.requires.ring.0 (ring_few a.again.ring.xs.now a.again.ring.ys.now c.if-n-lt3.true)) c.mesh_scanline.ensures.mesh
