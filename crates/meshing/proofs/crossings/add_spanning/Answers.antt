-- `add_spanning` meets its contract: its loop is `Added`. Assumes nothing.
use Rattle.std.proofs.Common.{◌+◌, ◌<◌, ◌≡◌, refl, sym, ◌∙◌, true, length, arith}
use mathlib.Core.Bool.{xor}
use Rattle.std.specs.Float.Ieee.{le}
use Rattle.lists.specs.Lists.{next_of}
use Rattle.lists.proofs.Passing.{add_start, add_room, add_keeps, add_drops}
use Rattle.binary64.specs.Numbers.{at}
use Rattle.meshing.specs.Crossings.{new_at}
use Rattle.meshing.proofs.CrossingLaws.{ends_inside, ends_last, new_is}
use Rattle.meshing.proofs.crossings.add_spanning.Goals as goal
use Rattle.meshing.proofs.crossings.add_spanning.Goals.{else-e-n, then-e-n, then-is_low-end_low+then-not-spans, else-is_low-end_low, else-is_low-end_low-via-then-is_low-end_low+else-not-spans, else-is_low-end_low-via-else-is_low-end_low}

pub returns-then-n-eq0 : goal.returns-then-n-eq0
returns-then-n-eq0 c = let a = c.args in
    let s = add_start (new_at a.ys.now a.below a.y) (λ e. e) a.edges.now 0 in
    (rw c.if-n-eq0.true s.are, rw c.if-n-eq0.true (omega (arith, s.many)))

pub loop-e-init : goal.loop-e-init
loop-e-init c = (λ _. refl, add_start _ _ _ _)

pub bounds-edges-count : goal.bounds-edges-count
unfolding xor
bounds-edges-count c = let a = c.args in
    let ys = a.ys.now in
    let y = a.y in
    let v = c.loop-e in
    let ends : c.if-e-n.end_low ≡ le (at ys (next_of (length ys) v.e)) y =
    elim c.if-e-n.branch [ then-e-n w ↦ w.end_low-is ∙ sym (ends_inside ys y v.e w.if-e-n.true) | else-e-n w ↦ w.end_low-is ∙ sym (ends_last ys y v.e c.loop-e-test.true w.if-e-n.false) ] in
    let is = new_is ys y v.e a.below (v.invariant.0 c.loop-e-test.true) ends in
    add_room _ _ _ _ v.invariant.1 (length ys) (omega arith) (omega (arith, c.requires)) (rw (is, c.if-is_low-end_low.true, ← c.spans.ensures, c.if-not-spans.true))

pub loop-e-preserved : goal.loop-e-preserved
unfolding xor
loop-e-preserved c = let a = c.args in
    let ys = a.ys.now in
    let y = a.y in
    let v = c.loop-e in
    let ends : c.if-e-n.end_low ≡ le (at ys (next_of (length ys) v.e)) y =
    elim c.if-e-n.branch [ then-e-n w ↦ w.end_low-is ∙ sym (ends_inside ys y v.e w.if-e-n.true) | else-e-n w ↦ w.end_low-is ∙ sym (ends_last ys y v.e c.loop-e-test.true w.if-e-n.false) ] in
    let is = new_is ys y v.e a.below (v.invariant.0 c.loop-e-test.true) ends in
    let low : v.e + 1 < length ys → c.if-e-n.end_low ≡ le (at ys (v.e + 1)) y = λ h. ends ∙ ends_inside ys y v.e h in
    elim c.if-is_low-end_low.branch [
      | then-is_low-end_low+then-not-spans w ↦ let new : new_at ys a.below y v.e ≡ true = rw (is, w.if-is_low-end_low.true, ← w.spans.ensures, w.if-not-spans.true) in
          (low, rw (w.edges-is, w.count-is) (add_keeps _ _ _ _ v.invariant.1 new (add_room _ _ _ _ v.invariant.1 (length ys) (omega arith) (omega (arith, c.requires)) new)))
      | else-is_low-end_low w ↦ elim w.else-is_low-end_low.branch [
        | else-is_low-end_low-via-then-is_low-end_low+else-not-spans u ↦ (low, rw (w.edges-is, w.count-is) (add_drops _ _ _ _ v.invariant.1 (rw (is, u.if-is_low-end_low.true, ← u.spans.ensures, u.if-not-spans.false))))
        | else-is_low-end_low-via-else-is_low-end_low u ↦ (low, rw (w.edges-is, w.count-is) (add_drops _ _ _ _ v.invariant.1 (rw (is, u.if-is_low-end_low.false))))
      ]
    ]
