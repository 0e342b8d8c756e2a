-- `write_quads` meets its contract: each turn writes the quad of a pair of edges, or skips it. Assumes nothing.
use Rattle.std.proofs.Common.{◌<◌, ◌/◌, sym, refl, ◌∙◌, length, arith}
use Rattle.meshing.proofs.QuadLaws.{sofar_start, sofar_skip, sofar_room_one, sofar_one, sofar_end, pair_below, chunk_flat, chunk_kept, pair_last}
use Rattle.meshing.proofs.quads.write_quads.Goals as goal
use Rattle.meshing.proofs.quads.write_quads.Goals.{else-not-is_flat, then-not-is_flat}

pub loop-left-init : goal.loop-left-init
loop-left-init c = sofar_start _ _ _ refl

pub quad_of-q-requires : goal.quad_of-q-requires
quad_of-q-requires c =
    let i : c.loop-left.left-index < length c.args.edges.numbers.now / 2 = omega arith in
    let b = pair_below (length c.args.edges.ring.xs.now) c.args.edges.numbers.now c.as_chunks.ensures.front c.loop-left.left-index i c.args.edges.below in
    (b.0, b.1)

pub write_eight-requires : goal.write_eight-requires
write_eight-requires c =
    let a = c.args in
    let i : c.loop-left.left-index < length a.edges.numbers.now / 2 = omega arith in
    let next = chunk_kept (length a.edges.ring.xs.now) a.edges.numbers.now c.as_chunks.ensures.front c.loop-left.left-index i a.edges.ring.xs.now a.edges.ring.ys.now a.band c.quad_of-q.ensures (sym c.is_flat.ensures ∙ c.if-not-is_flat.true) in
    omega (arith, sofar_room_one c.loop-left.invariant c.quad_of-q.result _ next c.requires.0, c.loop-left.invariant.long_xs)

pub write_eight-requires-then-not-is_flat : goal.write_eight-requires-then-not-is_flat
write_eight-requires-then-not-is_flat c =
    let a = c.args in
    let i : c.loop-left.left-index < length a.edges.numbers.now / 2 = omega arith in
    let next = chunk_kept (length a.edges.ring.xs.now) a.edges.numbers.now c.as_chunks.ensures.front c.loop-left.left-index i a.edges.ring.xs.now a.edges.ring.ys.now a.band c.quad_of-q.ensures (sym c.is_flat.ensures ∙ c.if-not-is_flat.true) in
    omega (arith, sofar_room_one c.loop-left.invariant c.quad_of-q.result _ next c.requires.0, c.loop-left.invariant.long_ys, c.requires.1)

pub loop-left-preserved : goal.loop-left-preserved
loop-left-preserved c =
    let a = c.args in
    let v = c.loop-left in
    let i : v.left-index < length a.edges.numbers.now / 2 = omega arith in
    let b = a.band in
    elim c.if-not-is_flat.branch [
      | then-not-is_flat w ↦ sofar_one v.invariant (chunk_kept (length a.edges.ring.xs.now) a.edges.numbers.now c.as_chunks.ensures.front v.left-index i a.edges.ring.xs.now a.edges.ring.ys.now b c.quad_of-q.ensures (sym c.is_flat.ensures ∙ w.if-not-is_flat.true)) c.requires.0 c.requires.1 (w.nx-is ∙ w.write_eight.ensures) (w.ny-is ∙ w.write_eight-then-not-is_flat.ensures) w.at-is
      | else-not-is_flat w ↦ rw (w.nx-is, w.ny-is, w.at-is) (sofar_skip v.invariant (chunk_flat (length a.edges.ring.xs.now) a.edges.numbers.now c.as_chunks.ensures.front v.left-index i a.edges.ring.xs.now a.edges.ring.ys.now b c.quad_of-q.ensures (sym c.is_flat.ensures ∙ w.if-not-is_flat.false)))
    ]

pub returns : goal.returns
returns c = sofar_end c.loop-left.invariant (pair_last c.args.edges.ring.xs.now c.args.edges.ring.ys.now c.args.band c.args.edges.numbers.now _ (omega arith))
