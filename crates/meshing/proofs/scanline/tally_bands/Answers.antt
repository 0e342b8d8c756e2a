-- `tally_bands` meets its contract: each turn tallies the quads of a band, whose edges are found from those of the band before. Assumes nothing.
use Rattle.std.proofs.Common.{◌≡◌, ◌-◌, ◌+◌, ◌<◌, ◌≤◌, sym, length, length-take-le, arith}
use Rattle.lists.proofs.Places.{below_at}
use Rattle.meshing.specs.Levels.{middle}
use Rattle.meshing.proofs.ScanlineLaws.{band_at, hand_start, sound_ring, hand_next, hand_below, tallying_start, tallying_turn, tallying_out}
use Rattle.meshing.proofs.scanline.tally_bands.Goals as goal

pub loop-k-init : goal.loop-k-init
loop-k-init c = (hand_start _ _ _ (sound_ring c.args.bands.ring) c.minus_infinity-below.ensures, tallying_start _ _ _)

pub returns-in_err-count : goal.returns-in_err-count
returns-in_err-count c =
    let a = c.args in
    let v = c.loop-k in
    let j : v.k - 1 + 1 ≡ v.k = omega arith in
    let mid : c.middle-y.result ≡ middle (band_at a.bands.levels.now (v.k - 1)) = rw j c.middle-y.ensures in
    let inside : v.k - 1 + 1 < length a.bands.levels.now = omega (arith, c.loop-k-test.true) in
    rw c.from_residual.ensures (tallying_out _ _ _ v.invariant.1 inside mid c.cross.new.edges c.in_err-count.ensures)

pub invariant_of-tally_quads : goal.invariant_of-tally_quads
invariant_of-tally_quads c =
    let s = c.args.bands.ring.ring in
    let m = c.in_ok-count in
    record { below = λ i h. below_at _ _ i (hand_below _ _ _ m.count c.cross.new.edges m.ensures (sym s.even)) h }

pub tally_quads-t-requires : goal.tally_quads-t-requires
tally_quads-t-requires c = let v = c.loop-k in
    let s = c.args.bands.ring.ring in
    let m = c.in_ok-count in
    let few : m.count ≤ length c.args.bands.ring.ring.ys.now = m.ensures.2 in
    let long = length-take-le m.count c.cross.new.edges (omega (arith, few, c.requires.edges_room)) in
    omega (arith, long, few, s.even, s.short, v.invariant.1.few, c.loop-k-test.true, c.args.bands.few)

pub loop-k-preserved : goal.loop-k-preserved
loop-k-preserved c =
    let a = c.args in
    let v = c.loop-k in
    let j : v.k - 1 + 1 ≡ v.k = omega arith in
    let mid : c.middle-y.result ≡ middle (band_at a.bands.levels.now (v.k - 1)) = rw j c.middle-y.ensures in
    let inside : v.k - 1 + 1 < length a.bands.levels.now = omega (arith, c.loop-k-test.true) in
    let s = c.args.bands.ring.ring in
    let m = c.in_ok-count in
    let few : m.count ≤ length a.bands.ring.ring.ys.now = m.ensures.2 in
    let long = length-take-le m.count c.cross.new.edges (omega (arith, few, c.requires.edges_room)) in
    let next : v.k + 1 - 1 ≡ v.k - 1 + 1 = omega arith in (
      hand_next _ _ _ m.count c.cross.new.edges m.ensures,
      rw next (tallying_turn a.bands.ring.ring.xs.now a.bands.ring.ring.ys.now a.bands.levels.now v.invariant.1 inside mid c.cross.new.edges {m = m.count} m.ensures (omega (arith, s.even, s.short)) (rw j c.tally_quads-t.ensures.0) (omega (arith, c.tally_quads-t.ensures.1, long))),
    )
