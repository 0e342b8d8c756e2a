-- `mesh_ring` meets its contract: by the scanline, or the ring as it is, or cleaned again. Assumes nothing.
use Rattle.std.proofs.Common.{sym, ◌∙◌}
use Rattle.meshing.proofs.PrismLaws.{clean_self}
use Rattle.meshing.proofs.prism.mesh_ring.Goals as goal

pub mesh_again-requires-clause-ring : goal.mesh_again-requires-clause-ring
mesh_again-requires-clause-ring c = (sym c.ring_is_rectilinear.ensures ∙ c.if-ring_is_rectilinear.false, clean_self c.args.extrusion.ring (c.is_clean.ensures c.if-is_clean.true))
