-- `write_nodes` meets its contract: each turn writes a plane. Assumes nothing.
use Rattle.std.proofs.Common.{◌+◌, ◌*◌, Float, refl, ap, arith}
use Rattle.meshing.specs.Grid.{plane, grid}
use Rattle.lists.proofs.Fills.{run_room}
use Rattle.meshing.proofs.GridLaws.{plane_length, nodes_are}
use Rattle.meshing.proofs.BoxWrites.{no_nodes, more_nodes, all_nodes}
use Rattle.meshing.proofs.grid.write_nodes.Goals as goal

pub loop-k-init : goal.loop-k-init
loop-k-init c = (no_nodes _ _ _ _ _ _, search)

pub loop-k-preserved : goal.loop-k-preserved
loop-k-preserved c = let a = c.args in
    let l = c.loop-k in
    let w = (a.x.cells + 1) * (a.y.cells + 1) in
    let turned = nodes_are a.x.cells a.y.cells a.z.cells in
    let room = run_room (a.z.cells + 1) w l.k c.loop-k-test.true in
    let z = ap (λ (v : Float). plane a.x.cells a.y.cells (λ i j. v)) c.at.ensures in
    (more_nodes l.invariant.0 c.node_plane.ensures.nodes refl refl z (λ i. plane_length _ _ _) (λ i. plane_length _ _ _) (λ i. plane_length _ _ _) refl (omega arith, search, search), search)

pub returns-clause-nodes : goal.returns-clause-nodes
unfolding grid
returns-clause-nodes c = all_nodes c.loop-k.invariant.0 (omega arith)
