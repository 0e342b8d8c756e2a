-- `hex_plane` meets its contract: each turn writes a row. Assumes nothing.
use Rattle.std.proofs.Common.{◌+◌, ◌*◌, refl, ◌∙◌, arith}
use Rattle.lists.specs.Lists.{put, runs}
use Rattle.lists.proofs.Fills.{no_runs, one_run, run_room}
use Rattle.meshing.proofs.GridLaws.{row_length, hex_row}
use Rattle.meshing.proofs.grid.hex_plane.Goals as goal

pub loop-j-init : goal.loop-j-init
loop-j-init c = no_runs _ _ _ _

pub loop-j-preserved : goal.loop-j-preserved
loop-j-preserved c = let a = c.args in
    let l = c.loop-j in
    let space = run_room a.cells.ny (a.cells.nx * 8) l.j c.loop-j-test.true in
    one_run l.invariant (c.hex_row.ensures ∙ (λ t. put l.places (a.at + l.j * (a.cells.nx * 8)) (runs a.cells.nx (λ i. hex_row a.a a.cells.nx a.cells.ny i l.j (a.a + l.j * (a.cells.nx + 1)) refl t)))) (λ j. row_length _ _ _ _ _ _) refl (omega arith)
