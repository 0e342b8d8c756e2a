-- `cross` meets its contract: the last band's edges are taken on to this one, and sorted as `crossings` are. Assumes nothing.
use Rattle.std.proofs.Common.{◌≡◌, refl, sym, ◌∙◌, length, take, length-take-le, take_at, arith}
use Rattle.meshing.proofs.CrossingLaws.{spanning_below, in_range_is, sorted_is}
use Rattle.meshing.proofs.crossings.cross.Goals as goal

pub sort_crossings-requires : goal.sort_crossings-requires
sort_crossings-requires c = let a = c.args in
    let p = c.requires in
    let d = c.next_edges-count in
    let l = d.new.edges in
    (omega (arith, d.ensures.1, p.1, sym (length-take-le d.result d.new.edges (omega (arith, p.0, d.ensures.1, d.auto.edges)))), spanning_below a.ring.xs.now a.ring.ys.now a.y (take d.result l) d.ensures.0 (length a.ring.xs.now) (sym a.ring.even))

pub returns-in_err-sort_crossings : goal.returns-in_err-sort_crossings
returns-in_err-sort_crossings c = let a = c.args in
    let d = c.next_edges-count in
    rw c.from_residual.ensures (sym (in_range_is a.ring.xs.now a.ring.ys.now a.y (take d.result d.new.edges) d.ensures.0 c.in_err-sort_crossings.ensures))

pub returns : goal.returns
returns c = let a = c.args in
    let d = c.next_edges-count in
    let l = d.new.edges in
    let o = c.sort_crossings in
    let s = c.in_ok-sort_crossings.ensures in
    let long : length o.new.edges ≡ d.result = o.auto.edges ∙ length-take-le d.result d.new.edges (omega (arith, c.requires.0, d.ensures.1, d.auto.edges)) in (
      sym (in_range_is a.ring.xs.now a.ring.ys.now a.y (take d.result l) d.ensures.0 s),
      take_at o.new.edges _ d.result long ∙ sorted_is a.ring.xs.now a.ring.ys.now a.y (take d.result l) d.ensures.0 s refl,
      d.ensures.1,
    )
