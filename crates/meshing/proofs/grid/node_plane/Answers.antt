-- `node_plane` meets its contract: each turn writes a row. Assumes nothing.
use Rattle.std.proofs.Common.{◌+◌, Float, refl, ap, arith, mul_comm}
use Rattle.lists.specs.Lists.{elems}
use Rattle.meshing.specs.Grid.{plane}
use Rattle.lists.proofs.Fills.{elems_length, run_room}
use Rattle.meshing.proofs.BoxWrites.{no_nodes, more_nodes, all_nodes}
use Rattle.meshing.proofs.grid.node_plane.Goals as goal

pub loop-j-init : goal.loop-j-init
loop-j-init c = (no_nodes _ _ _ _ _ _, search)

pub loop-j-preserved : goal.loop-j-preserved
loop-j-preserved c = let a = c.args in
    let l = c.loop-j in
    let w = a.x.cells + 1 in
    let turned = mul_comm (a.y.cells + 1) w in
    let room = run_room (a.y.cells + 1) w l.j c.loop-j-test.true in
    let y = ap (λ (v : Float). elems w (λ i. v)) c.at.ensures in
    (more_nodes l.invariant.0 c.node_row.ensures.nodes refl y refl (λ i. elems_length _ _) (λ i. elems_length _ _) (λ i. elems_length _ _) refl (omega arith, search, search), search)

pub returns-clause-nodes : goal.returns-clause-nodes
unfolding plane
returns-clause-nodes c = all_nodes c.loop-j.invariant.0 (omega arith)
