-- `hex_row` meets its contract: each turn writes the eight places of a hex. Assumes nothing.
use Rattle.std.proofs.Common.{◌+◌, ◌*◌, refl, ap, ◌∙◌, arith}
use Rattle.lists.specs.Lists.{put}
use Rattle.lists.proofs.Fills.{no_runs, one_run}
use Rattle.meshing.proofs.GridLaws.{hex_length, hex_is}
use Rattle.meshing.proofs.grid.hex_row.Goals as goal

pub loop-i-init : goal.loop-i-init
loop-i-init c = no_runs _ _ _ _

pub loop-i-preserved : goal.loop-i-preserved
loop-i-preserved c = let a = c.args in
    let l = c.loop-i in
    one_run l.invariant (c.write_eight.ensures ∙ ap (put l.places (a.at + 8 * l.i)) (hex_is a.first a.cells.nx a.cells.ny l.i (a.first + l.i) (a.cells.nx + 1) ((a.cells.nx + 1) * (a.cells.ny + 1)) refl refl refl)) (λ i. hex_length _ _ _ _ _ _) (omega arith) (omega arith)
