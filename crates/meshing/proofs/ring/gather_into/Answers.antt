-- `gather_into` meets its contract: the loop fills the start of `out` with the numbers at the places passed. Assumes nothing.
use Rattle.std.proofs.Common.{ap, refl, ◌∙◌, arith}
use Rattle.std.specs.Float.{nan}
use Rattle.lists.specs.Lists.{put}
use Rattle.lists.proofs.Fills.{one_elem, all_elems}
use Rattle.lists.proofs.Places.{gather_elems}
use Rattle.meshing.proofs.ring.gather_into.Goals as goal

pub loop-i-preserved : goal.loop-i-preserved
loop-i-preserved c = one_elem c.loop-i.invariant (omega arith) (omega arith) refl

pub returns : goal.returns
returns c = let a = c.args in
    all_elems c.loop-i.invariant (omega arith) ∙ ap (put a.out.now 0) (gather_elems nan a.l.now a.places.now)
