-- `write_bands` meets its contract: each turn writes the quads of a band, whose edges are found from those of the band before. Assumes nothing.
use Rattle.std.proofs.Common.{◌≡◌, ◌-◌, ◌+◌, ◌<◌, ◌≤◌, ◌∙◌, sym, length, take, Some, arith}
use Rattle.lists.specs.Lists.{joined}
use Rattle.meshing.specs.Crossings.{CrossedAs}
use Rattle.lists.proofs.Places.{below_at}
use Rattle.meshing.specs.Levels.{middle}
use Rattle.meshing.specs.Quads.{quads_between}
use Rattle.meshing.specs.Scanline.{quad_xs}
use Rattle.meshing.proofs.ScanlineLaws.{band_at, drawn, hand_start, sound_ring, hand_next, hand_below, writing_start, writing_some, writing_room, writing_turn, writing_end}
use Rattle.meshing.proofs.scanline.write_bands.Goals as goal

pub loop-k-init : goal.loop-k-init
loop-k-init c = (hand_start _ _ _ (sound_ring c.args.bands.ring) c.minus_infinity-below.ensures, writing_start _ _ _ _ _ _ c.requires.fine)

pub unwrap-count-requires : goal.unwrap-count-requires
unwrap-count-requires c =
    let a = c.args in
    let v = c.loop-k in
    let j : v.k - 1 + 1 ≡ v.k = omega arith in
    let mid : c.middle-y.result ≡ middle (band_at a.bands.levels.now (v.k - 1)) = rw j c.middle-y.ensures in
    let inside : v.k - 1 + 1 < length a.bands.levels.now = omega (arith, c.loop-k-test.true) in
    writing_some _ _ _ v.invariant.1 inside mid c.cross.new.edges c.cross.result c.cross.ensures

pub invariant_of-write_quads : goal.invariant_of-write_quads
invariant_of-write_quads c =
    let a = c.args in
    let found : CrossedAs a.bands.ring.ring.xs.now a.bands.ring.ring.ys.now c.middle-y.result (Some c.unwrap-count.result) c.cross.new.edges = rw c.unwrap-count.ensures at c.cross.ensures in
    record { below = λ i h. below_at _ _ i (hand_below _ _ _ c.unwrap-count.result c.cross.new.edges found (sym a.bands.ring.ring.even)) h }

pub write_quads-place-requires : goal.write_quads-place-requires
write_quads-place-requires c =
    let a = c.args in
    let v = c.loop-k in
    let j : v.k - 1 + 1 ≡ v.k = omega arith in
    let mid : c.middle-y.result ≡ middle (band_at a.bands.levels.now (v.k - 1)) = rw j c.middle-y.ensures in
    let inside : v.k - 1 + 1 < length a.bands.levels.now = omega (arith, c.loop-k-test.true) in
    let found : CrossedAs a.bands.ring.ring.xs.now a.bands.ring.ring.ys.now c.middle-y.result (Some c.unwrap-count.result) c.cross.new.edges = rw c.unwrap-count.ensures at c.cross.ensures in
    let w = v.invariant.1.wrote in
    let room : v.place + length (joined quad_xs (quads_between a.bands.ring.ring.xs.now a.bands.ring.ring.ys.now (band_at a.bands.levels.now (v.k - 1)) (take c.unwrap-count.result c.cross.new.edges))) ≤ length a.nx.now = writing_room _ _ _ v.invariant.1 inside mid c.cross.new.edges {m = c.unwrap-count.result} found (rw (← drawn _ _ c.args.bands.are) at c.requires.room.0) in
    (omega (arith, rw j at room, w.long_xs), w.long_ys ∙ c.requires.room.1 ∙ sym w.long_xs)

pub loop-k-preserved : goal.loop-k-preserved
loop-k-preserved c =
    let a = c.args in
    let v = c.loop-k in
    let j : v.k - 1 + 1 ≡ v.k = omega arith in
    let mid : c.middle-y.result ≡ middle (band_at a.bands.levels.now (v.k - 1)) = rw j c.middle-y.ensures in
    let inside : v.k - 1 + 1 < length a.bands.levels.now = omega (arith, c.loop-k-test.true) in
    let found : CrossedAs a.bands.ring.ring.xs.now a.bands.ring.ring.ys.now c.middle-y.result (Some c.unwrap-count.result) c.cross.new.edges = rw c.unwrap-count.ensures at c.cross.ensures in
    let w = c.write_quads-place.ensures in
    let next : v.k + 1 - 1 ≡ v.k - 1 + 1 = omega arith in (
      hand_next _ _ _ c.unwrap-count.result c.cross.new.edges found,
      rw next (writing_turn a.bands.ring.ring.xs.now a.bands.ring.ring.ys.now a.bands.levels.now v.invariant.1 inside mid c.cross.new.edges {m = c.unwrap-count.result} found (rw (← drawn _ _ c.args.bands.are) at c.requires.room.0) c.requires.room.1 (rw j w.0) (rw j w.1) (rw j w.2)),
    )

pub returns : goal.returns
returns c = rw (← drawn _ _ c.args.bands.are) (writing_end _ _ _ c.loop-k.invariant.1 (omega (arith, c.loop-k-test.false)))
