-- `clip_ring` meets its contract: the walk in the direction of the area, clipped. Assumes nothing.
use Rattle.std.proofs.Common.{◌∙◌, refl}
use Rattle.meshing.proofs.TriangulateLaws.{sound_fault, area_is, ring_triangles}
use Rattle.meshing.proofs.triangulate.clip_ring.Goals as goal

pub returns-then-ring-le32 : goal.returns-then-ring-le32
returns-then-ring-le32 c = let r = c.args.sound.ring in
    c.clip_around.ensures ∙ ring_triangles _ _ _ _ c.requires.0 (area_is _ _ (sound_fault _ _ r.even r.short c.args.sound.in_range) c.in_ok-area.ensures) refl

pub returns : goal.returns
returns c = let r = c.args.sound.ring in
    c.clip_around-2.ensures ∙ ring_triangles _ _ _ _ c.requires.0 (area_is _ _ (sound_fault _ _ r.even r.short c.args.sound.in_range) c.in_ok-area.ensures) refl
