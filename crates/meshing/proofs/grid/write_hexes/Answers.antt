-- `write_hexes` meets its contract: each turn writes a plane. Assumes nothing.
use Rattle.std.proofs.Common.{◌+◌, ◌*◌, refl, ◌∙◌, arith}
use Rattle.lists.specs.Lists.{put, runs}
use Rattle.meshing.specs.Grid.{hex_places}
use Rattle.lists.proofs.Fills.{no_runs, one_run, all_runs, run_room}
use Rattle.meshing.proofs.GridLaws.{cells_are, rows_length, hex_plane}
use Rattle.meshing.proofs.grid.write_hexes.Goals as goal

pub loop-k-init : goal.loop-k-init
loop-k-init c = no_runs _ _ _ _

pub loop-k-preserved : goal.loop-k-preserved
loop-k-preserved c = let a = c.args in
    let l = c.loop-k in
    let space = run_room a.cells.nz (a.cells.ny * (a.cells.nx * 8)) l.k c.loop-k-test.true in
    let cells = cells_are a.cells.nx a.cells.ny a.cells.nz in
    one_run l.invariant (c.hex_plane.ensures ∙ (λ t. put l.places (a.at + l.k * (a.cells.ny * (a.cells.nx * 8))) (runs a.cells.ny (λ j. runs a.cells.nx (λ i. hex_plane a.base a.cells.nx a.cells.ny i j l.k (a.base + l.k * ((a.cells.nx + 1) * (a.cells.ny + 1))) refl t))))) (λ k. rows_length _ _ _ _) refl (omega arith)

pub returns : goal.returns
unfolding hex_places
returns c = all_runs c.loop-k.invariant (omega arith)
