-- `drop_close` meets its contract: the heights kept so far, and those that are kept of what is left, are all that are kept. Assumes nothing.
use Rattle.std.proofs.Common.{◌≤◌, ◌+◌, ap, ◌∙◌, length, take, take_all, arith}
use borrow.Author.Tests.{not-true, not-false}
use Rattle.meshing.specs.Levels.{apart}
use Rattle.meshing.proofs.LevelLaws.{apart_none, apart_start, apart_near, apart_far, apart_as, apart_end}
use Rattle.meshing.proofs.levels.drop_close.Goals as goal
use Rattle.meshing.proofs.levels.drop_close.Goals.{else-not-abs, then-not-abs}

pub returns-then-n-eq0 : goal.returns-then-n-eq0
returns-then-n-eq0 c = let l = c.args.l.now in (apart_none l (length l) c.if-n-eq0.true ∙ ap apart (take_all (length l) l (omega arith)), omega arith)

pub loop-i-init : goal.loop-i-init
loop-i-init c = (omega arith, apart_start c.args.l.now (length c.args.l.now) (omega arith) (omega arith))

pub loop-i-preserved : goal.loop-i-preserved
loop-i-preserved c = let a = c.args in
    let v = c.loop-i in
    let all = apart (take (length a.l.now) a.l.now) in
    let room : (length a.l.now) ≤ length v.l = omega arith in
    elim c.if-not-abs.branch [
      | then-not-abs w ↦ (
        omega (arith, w.count-is),
        apart_as all _ (length a.l.now) _ (v.i + 1) _ (apart_far all v.l (length a.l.now) v.count v.i v.last v.invariant.1 c.loop-i-test.true room v.invariant.0 c.abs.result c.abs.ensures (not-true _ w.if-not-abs.true-raw)) w.l-is w.last-is w.count-is,
      )
      | else-not-abs w ↦ (
        omega (arith, w.count-is),
        apart_as all _ (length a.l.now) _ (v.i + 1) _ (apart_near all v.l (length a.l.now) v.count v.i v.last v.invariant.1 c.loop-i-test.true room c.abs.result c.abs.ensures (not-false _ w.if-not-abs.false-raw)) w.l-is w.last-is w.count-is,
      )
    ]

pub returns : goal.returns
returns c = let l = c.args.l.now in
    let v = c.loop-i in
    (apart_end (apart (take (length l) l)) v.l (length l) v.count v.i v.last v.invariant.1 (omega arith) (omega arith) ∙ ap apart (take_all (length l) l (omega arith)), omega arith)
