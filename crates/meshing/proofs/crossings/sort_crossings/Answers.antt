-- `sort_crossings` meets its contract: its loop is `Sorting`. Assumes nothing.
use Rattle.std.proofs.Common.{sym, ◌∙◌, length, arith}
use Rattle.lists.proofs.Places.{below_at}
use Rattle.meshing.proofs.CrossingLaws.{sorting_at, sorting_turn, sorting_out, sorting_end}
use Rattle.meshing.proofs.crossings.sort_crossings.Goals as goal

pub edge_at-x-requires : goal.edge_at-x-requires
edge_at-x-requires c = let a = c.args in
    omega (arith, sorting_at a.ring.xs.now a.ring.ys.now a.y a.edges.now c.loop-i.invariant, below_at (length a.ring.xs.now) a.edges.now c.loop-i.i c.requires.1 (omega arith))

pub returns-then-not-coordinate_in_range : goal.returns-then-not-coordinate_in_range
returns-then-not-coordinate_in_range c = let a = c.args in
    sorting_out a.ring.xs.now a.ring.ys.now a.y a.edges.now c.loop-i.invariant c.edge_at-x.result (omega arith) c.edge_at-x.ensures (sym c.coordinate_in_range.ensures ∙ c.if-not-coordinate_in_range.true)

pub loop-i-preserved : goal.loop-i-preserved
loop-i-preserved c = let a = c.args in
    let p = c.insert_crossing in
    sorting_turn a.ring.xs.now a.ring.ys.now a.y a.edges.now c.loop-i.invariant c.edge_at-x.result (omega arith) c.edge_at-x.ensures _ _ (sym c.coordinate_in_range.ensures ∙ c.if-not-coordinate_in_range.false) p.ensures.0 p.ensures.1 p.ensures.2 p.auto.edges

pub returns : goal.returns
returns c = let a = c.args in
    sorting_end a.ring.xs.now a.ring.ys.now a.y a.edges.now c.loop-i.invariant (omega arith)
