-- `write_pair` meets its contract: one prism after the other. Assumes nothing.
use Rattle.meshing.proofs.ScanlineLaws.{two_prisms}
use Rattle.meshing.proofs.scanline.write_pair.Goals as goal

pub returns : goal.returns
returns c = two_prisms c.args.places.now c.args.at c.args.a c.requires.0 c.write_eight.ensures c.write_eight-2.ensures
