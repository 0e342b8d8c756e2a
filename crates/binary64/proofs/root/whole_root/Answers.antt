-- `whole_root` meets its contract, by the laws of a root from its first half. Assumes nothing.
use Rattle.std.proofs.Common.{ℕ, ◌+◌, ◌*◌, ◌/◌, ◌%◌, ◌^◌, ◌<◌, ◌≤◌, arith, Fits-le, Fits-lit, w64, Fits}
use Rattle.binary64.proofs.WholeRoots.{Split, split, long_root, long_root_less}
use Rattle.binary64.proofs.root.whole_root.Goals as goal
use Rattle.binary64.proofs.root.whole_root.Goals.{After-root_and_rest-first}

abbrev S : After-root_and_rest-first → ℕ
S c = c.root_and_rest-first.result.root

abbrev More : After-root_and_rest-first → ℕ
More c = c.root_and_rest-first.result.rest * 4194304

parts : (c : After-root_and_rest-first) → Split (S c) c.root_and_rest-first.result.rest (More c / (S c * 2)) (More c % (S c * 2))
parts c = let g = c.root_and_rest-first.ensures in split c.args.m (S c) _ c.requires.0 c.requires.1 g.0 g.1

pub overflow_mul-more : goal.overflow_mul-more
overflow_mul-more c = omega (arith, (parts c.before).s_high, c.root_and_rest-first.ensures.1)

pub overflow_mul-q : goal.overflow_mul-q
overflow_mul-q c = omega (arith, (parts c.before.before).s_high)

pub overflow_mul-u : goal.overflow_mul-u
overflow_mul-u c = overflow_mul-q c.before

pub overflow_mul-r : goal.overflow_mul-r
overflow_mul-r c = omega (arith, (parts c.before.before.before.before).s_high)

pub overflow_add-r : goal.overflow_add-r
overflow_add-r c = let w = parts c.before.before.before.before in room _ _ w.s_high w.q_high
  where
    room : (s q : ℕ) → s < 2 ^ 32 → q ≤ 2 ^ 22 → Fits w64 (s * 4194304 + q)
    room s q h k = omega arith

pub overflow_mul-u-2 : goal.overflow_mul-u-2
overflow_mul-u-2 c = let w = parts c.before.before.before.before in room _ _ w.s_high w.u_high
  where
    room : (s u : ℕ) → s < 2 ^ 32 → u < s * 2 → Fits w64 (u * 4194304)
    room s u h k = omega arith

pub overflow_mul-q-2 : goal.overflow_mul-q-2
overflow_mul-q-2 c = Fits-le (parts c.before.before.before.before).q_square (Fits-lit tt)

pub overflow_sub-result : goal.overflow_sub-result
overflow_sub-result c = some _ _ (parts c.before.before.before.before.before).s_low
  where
    some : (s q : ℕ) → 2 ^ 31 ≤ s → 1 ≤ s * 4194304 + q
    some s q h = omega arith

pub returns-then-u-q : goal.returns-then-u-q
returns-then-u-q c = let a = c in
    let w = long_root_less a.args.m (S a.before.before.before.before.before) _ _ _ a.root_and_rest-first.ensures.0 (parts a.before.before.before.before.before) c.if-u-q.true in
    (w.low, w.high)

pub returns : goal.returns
returns c = let a = c in
    let w = long_root a.args.m (S a.before.before.before.before.before) _ _ _ a.root_and_rest-first.ensures.0 (parts a.before.before.before.before.before) c.if-u-q.false in
    (w.low, w.high)
