-- `node_row` meets its contract: the loop writes all places but the last. Assumes nothing.
use Rattle.std.proofs.Common.{◌≡◌, ◌+◌, refl, arith}
use Rattle.lists.proofs.Fills.{no_elems, one_elem, all_elems}
use Rattle.meshing.proofs.GridLaws.{axis_last}
use Rattle.meshing.proofs.BoxWrites.{same_mesh}
use Rattle.meshing.proofs.grid.node_row.Goals as goal

pub loop-i-init : goal.loop-i-init
loop-i-init c = (no_elems _ _ _, no_elems _ _ _, no_elems _ _ _)

pub loop-i-preserved : goal.loop-i-preserved
loop-i-preserved c = let inv = c.loop-i.invariant in (
  one_elem inv.0 refl (omega arith) c.before_end.ensures,
  one_elem inv.1 refl (omega arith) refl,
  one_elem inv.2 refl (omega arith) refl,
)

pub returns-clause-nodes : goal.returns-clause-nodes
returns-clause-nodes c = let a = c.args in
    let inv = c.loop-i.invariant in
    let done : c.loop-i.i ≡ a.x.cells = omega arith in
    let place : a.at + a.x.cells ≡ a.at + c.loop-i.i = omega arith in
    let all : c.loop-i.i + 1 ≡ a.x.cells + 1 = omega arith in
    same_mesh
    (all_elems (one_elem inv.0 place (omega arith) (axis_last a.x.low a.x.high a.x.cells c.loop-i.i done)) all)
    (all_elems (one_elem inv.1 place (omega arith) refl) all)
    (all_elems (one_elem inv.2 place (omega arith) refl) all)
    refl
    refl
    refl
