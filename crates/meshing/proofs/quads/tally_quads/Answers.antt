-- `tally_quads` meets its contract: each turn tallies the quad of a pair of edges, or skips it. Assumes nothing.
use Rattle.std.proofs.Common.{◌<◌, ◌/◌, [], ◌∷◌, sym, ap, ◌∙◌, length, arith}
use Rattle.meshing.specs.declared.quads.Tally.{Tally}
use Rattle.meshing.proofs.QuadLaws.{count_skip, count_more, count_end, pair_below, chunk_flat, chunk_kept, pair_last}
use Rattle.meshing.proofs.quads.tally_quads.Goals as goal
use Rattle.meshing.proofs.quads.tally_quads.Goals.{else-not-is_flat, then-not-is_flat}

pub quad_of-q-requires : goal.quad_of-q-requires
quad_of-q-requires c =
    let i : c.loop-left.left-index < length c.args.edges.numbers.now / 2 = omega arith in
    let b = pair_below (length c.args.edges.ring.xs.now) c.args.edges.numbers.now c.as_chunks.ensures.front c.loop-left.left-index i c.args.edges.below in
    (b.0, b.1)

pub loop-left-preserved : goal.loop-left-preserved
loop-left-preserved c =
    let a = c.args in
    let i : c.loop-left.left-index < length a.edges.numbers.now / 2 = omega arith in
    let b = a.band in
    elim c.if-not-is_flat.branch [
      | then-not-is_flat w ↦ (
        omega (arith, w.tally_quad-sum.ensures.quads, ap (λ (t : Tally). t.quads) w.sum-is),
        rw w.sum-is (count_more c.loop-left.invariant.1 (c.quad_of-q.result ∷ []) (chunk_kept (length a.edges.ring.xs.now) a.edges.numbers.now c.as_chunks.ensures.front c.loop-left.left-index i a.edges.ring.xs.now a.edges.ring.ys.now b c.quad_of-q.ensures (sym c.is_flat.ensures ∙ w.if-not-is_flat.true)) w.tally_quad-sum.ensures),
      )
      | else-not-is_flat w ↦ (
        omega (arith, ap (λ (t : Tally). t.quads) w.sum-is),
        rw w.sum-is (count_skip c.loop-left.invariant.1 (chunk_flat (length a.edges.ring.xs.now) a.edges.numbers.now c.as_chunks.ensures.front c.loop-left.left-index i a.edges.ring.xs.now a.edges.ring.ys.now b c.quad_of-q.ensures (sym c.is_flat.ensures ∙ w.if-not-is_flat.false))),
      )
    ]

pub returns : goal.returns
returns c = (count_end c.loop-left.invariant.1 (pair_last c.args.edges.ring.xs.now c.args.edges.ring.ys.now c.args.band c.args.edges.numbers.now _ (omega arith)), omega arith)
