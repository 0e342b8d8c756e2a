-- `ring_area` meets its contract: its loop is `Summing`, two edges a turn.
use Rattle.std.proofs.Common.{◌≡◌, ◌+◌, ◌-◌, ◌*◌, arith, length, subst}
use Rattle.std.specs.Prelude.{true}
use borrow.Author.Tests.{not-true, not-false}
use Rattle.binary64.specs.Numbers.{◌⊕◌}
use Rattle.openrdson_core.proofs.Areas.{Summing, summing_start}
use Rattle.geometry.proofs.RingLaws.{two_more, two_out, ends_small, ends_one, ends_two}
use Rattle.geometry.proofs.volume.ring_area.Goals as goal

pub loop-turn-init : goal.loop-turn-init
loop-turn-init c = summing_start c.args.ring.xs.now c.args.ring.ys.now

pub returns-then-not-is_in_range : goal.returns-then-not-is_in_range
returns-then-not-is_in_range c = two_out c.args.ring.xs.now c.args.ring.ys.now c.args.ring.even c.if-n-gt512.false (2 * c.loop-turn.turn) ((2 * c.loop-turn.turn) + 1) _ _ (omega arith) (omega arith) c.new-a.ensures c.new-b.ensures c.is_in_range.ensures c.is_in_range-in-loop-turn.ensures (not-true _ c.if-not-is_in_range.true-raw)

pub loop-turn-preserved : goal.loop-turn-preserved
loop-turn-preserved c =
    let e : 2 * c.loop-turn.turn + 2 ≡ 2 * (c.loop-turn.turn + 1) = omega arith in
    subst (λ k. Summing c.args.ring.xs.now c.args.ring.ys.now k (c.loop-turn.sum ⊕ c.cross_of.result ⊕ c.cross_of-in-loop-turn.result) true) e
    (two_more c.args.ring.xs.now c.args.ring.ys.now c.args.ring.even _ _ _ c.loop-turn.invariant (omega arith) c.new-a.ensures c.new-b.ensures c.new-c.ensures c.is_in_range.ensures c.is_in_range-in-loop-turn.ensures (not-false _ c.if-not-is_in_range.false-raw) (rw (c.cross_of.ensures, c.cross_of-in-loop-turn.ensures)))

pub returns-then-not-is_in_range-2 : goal.returns-then-not-is_in_range-2
returns-then-not-is_in_range-2 c = two_out c.args.ring.xs.now c.args.ring.ys.now c.args.ring.even c.if-n-gt512.false _ (length c.args.ring.xs.now - 1) _ _ (omega arith) (omega arith) c.new-here.ensures c.new-last.ensures c.is_in_range-2.ensures c.is_in_range-3.ensures (not-true _ c.if-not-is_in_range-2.true-raw)

pub returns-then-n-lt3 : goal.returns-then-n-lt3
returns-then-n-lt3 c = ends_small c.args.ring.xs.now c.args.ring.ys.now c.args.ring.even c.if-n-gt512.false (subst (λ k. Summing c.args.ring.xs.now c.args.ring.ys.now k c.loop-turn.sum true) (omega arith) c.loop-turn.invariant) _ _ c.new-here.ensures c.new-last.ensures c.is_in_range-2.ensures c.is_in_range-3.ensures (not-false _ c.if-not-is_in_range-2.false-raw) (omega arith) (omega arith) c.if-n-lt3.true

pub returns-then-i-n : goal.returns-then-i-n
returns-then-i-n c = ends_two c.args.ring.xs.now c.args.ring.ys.now c.args.ring.even c.if-n-gt512.false (subst (λ k. Summing c.args.ring.xs.now c.args.ring.ys.now k c.loop-turn.sum true) (omega arith) c.loop-turn.invariant) _ _ c.new-here.ensures c.new-last.ensures c.is_in_range-2.ensures c.is_in_range-3.ensures (not-false _ c.if-not-is_in_range-2.false-raw) _ c.if-i-n.true (omega arith) c.if-n-lt3.false c.new.ensures (rw (c.abs.ensures, c.cross_of-closing.ensures, c.cross_of-then-i-n.ensures))

pub returns : goal.returns
returns c = ends_one c.args.ring.xs.now c.args.ring.ys.now c.args.ring.even c.if-n-gt512.false (subst (λ k. Summing c.args.ring.xs.now c.args.ring.ys.now k c.loop-turn.sum true) (omega arith) c.loop-turn.invariant) _ _ c.new-here.ensures c.new-last.ensures c.is_in_range-2.ensures c.is_in_range-3.ensures (not-false _ c.if-not-is_in_range-2.false-raw) _ (omega arith) c.if-n-lt3.false c.new.ensures (rw (c.abs-2.ensures, c.cross_of-closing.ensures))
