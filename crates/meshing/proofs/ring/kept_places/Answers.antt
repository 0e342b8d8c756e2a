-- `kept_places` meets its contract: its loop is `Keeping`, and at its end the last place is dropped if it is close to the first. Assumes nothing.
use Rattle.std.proofs.Common.{◌≡◌, ◌≤◌, sym, ◌∙◌, arith, length, length-set, length-take-le}
use Rattle.meshing.specs.Ring.{KeptIn}
use Rattle.meshing.proofs.RingLaws.{keeping_start, keeping_as, keeping_close, keeping_far, kept_none, kept_one, kept_closed, kept_open}
use Rattle.meshing.proofs.ring.kept_places.Goals as goal
use Rattle.meshing.proofs.ring.kept_places.Goals.{else-not-is_close, then-not-is_close, then-count-gt1+then-is_close, else-count-gt1, else-count-gt1-via-then-count-gt1+else-is_close, else-count-gt1-via-else-count-gt1}

pub returns-then-n-eq0 : goal.returns-then-n-eq0
returns-then-n-eq0 c = record { are = (kept_none c.args.ring.xs.now c.args.ring.ys.now c.args.places.now c.if-n-eq0.true).is; below = tt; within = omega arith }

pub loop-i-init : goal.loop-i-init
loop-i-init c = keeping_start c.args.ring.xs.now c.args.ring.ys.now c.args.places.now c.point-first.result c.point-first.ensures (omega arith)

pub loop-i-preserved : goal.loop-i-preserved
loop-i-preserved c = let a = c.args in
    let v = c.loop-i in
    let p = c.point-point in
    elim c.if-not-is_close.branch [
      | then-not-is_close w ↦ keeping_as a.ring.xs.now a.ring.ys.now (keeping_far a.ring.xs.now a.ring.ys.now v.invariant p.result p.ensures (sym c.is_close.ensures ∙ w.if-not-is_close.true) (omega (arith, length-set a.places.now 0 0))) w.places-is w.last-is w.count-is
      | else-not-is_close w ↦ keeping_as a.ring.xs.now a.ring.ys.now (keeping_close a.ring.xs.now a.ring.ys.now v.invariant p.result p.ensures (sym c.is_close.ensures ∙ w.if-not-is_close.false)) w.places-is w.last-is w.count-is
    ]

pub returns : goal.returns
returns c = let f = c.point-first in
    let r = c.args.ring in
    let v = c.loop-i in
    let all : v.i ≡ length r.xs.now = omega arith in
    let k : KeptIn r.xs.now r.ys.now v.places c.if-count-gt1.count =
    elim c.if-count-gt1.branch [
      | then-count-gt1+then-is_close w ↦ rw w.count-is (kept_closed r.xs.now r.ys.now v.invariant all f.result f.ensures w.if-count-gt1.true (sym w.is_close-then-count-gt1.ensures ∙ w.if-is_close.true))
      | else-count-gt1 w ↦ rw w.count-is (elim w.else-count-gt1.branch [
        | else-count-gt1-via-then-count-gt1+else-is_close u ↦ kept_open r.xs.now r.ys.now v.invariant all f.result f.ensures u.if-count-gt1.true (sym u.is_close-then-count-gt1.ensures ∙ u.if-is_close.false)
        | else-count-gt1-via-else-count-gt1 u ↦ kept_one r.xs.now r.ys.now v.invariant all u.if-count-gt1.false
      ])
    ] in
    let fewer : c.if-count-gt1.count ≤ v.count = elim c.if-count-gt1.branch [ then-count-gt1+then-is_close w ↦ omega (arith, w.count-is) | else-count-gt1 w ↦ omega (arith, w.count-is) ] in
    record { are = k.is; below = k.below; within = omega (arith, k.within, length-take-le c.if-count-gt1.count v.places (omega (arith, fewer, v.invariant.room))) }
