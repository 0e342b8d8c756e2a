-- `mesh_levels` meets its contract: the levels, what is decided from them, and what is written. Assumes nothing.
use Rattle.std.proofs.Common.{arith}
use Rattle.openrdson_core.proofs.Rings.{fine_heights}
use Rattle.meshing.proofs.ScanlineLaws.{sound_ring}
use Rattle.meshing.proofs.scanline.mesh_levels.Goals as goal

pub level_list-levels-requires : goal.level_list-levels-requires
level_list-levels-requires g c = (omega (arith, c.requires.ring.0), fine_heights _ _ (sound_ring c.args.extrusion.ring))
