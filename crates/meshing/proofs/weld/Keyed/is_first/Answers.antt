-- `is_first` meets its contract: the search finds it exactly where no node before it has its key. Assumes nothing.
use Rattle.meshing.proofs.WeldLaws.{first_found}
use Rattle.meshing.proofs.weld.Keyed.is_first.Goals as goal

pub returns : goal.returns
returns c = let n = c.args.self.nodes in first_found c.args.self.tolerance n.xs.now n.ys.now n.zs.now c.args.i c.eq.ensures c.requires c.key.ensures c.find.ensures
