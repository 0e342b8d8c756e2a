-- `root_and_rest` meets its contract. The first loop leaves a root whose square is at most n, whatever the estimate was; in the second the square and the rest together stay n.
-- Assumes nothing.
use Rattle.std.proofs.Common.{◌≡◌, ℕ, zero, suc, ◌+◌, ◌-◌, ◌*◌, ◌^◌, ◌<◌, ◌≤◌, mul-le-mul, arith, Fits-le, Fits-lit, w64, Fits}
use Rattle.binary64.proofs.WholeRoots.{square_lt}
use Rattle.binary64.proofs.root.root_and_rest.Goals as goal

square-fits : (a : ℕ) → a < 2 ^ 32 → Fits w64 (a * a)
square-fits a h = let l : a ≤ 2 ^ 32 - 1 = omega arith in Fits-le (mul-le-mul l l) (Fits-lit tt)

some : (a n : ℕ) → n < a * a → 1 ≤ a
some zero n h = omega arith
some (suc a) n h = omega arith

-- a root of a u64 has 32 binary digits
small : (r s n : ℕ) → Fits w64 n → r * r + s ≡ n → r < 2 ^ 32
small r s n f e = square_lt r (2 ^ 32) (under (r * r) s n f e)
  where
    under : (a s n : ℕ) → Fits w64 n → a + s ≡ n → a < 2 ^ 64
    under a s n f e = omega arith

next : (r s n : ℕ) → r * r + s ≡ n → r * 2 < s → (r + 1) * (r + 1) + (s - r * 2 - 1) ≡ n
next r s n e h = omega arith

pub loop-root-init : goal.loop-root-init
loop-root-init c = c.estimated_root-root.ensures

pub overflow_mul-root : goal.overflow_mul-root
overflow_mul-root c = square-fits c.loop-root.root c.loop-root.invariant

pub overflow_sub-root : goal.overflow_sub-root
overflow_sub-root c = some c.loop-root.root _ c.loop-root-test.true

pub loop-root-smaller : goal.loop-root-smaller
loop-root-smaller c = let h = overflow_sub-root c in omega arith

pub overflow_mul-rest : goal.overflow_mul-rest
overflow_mul-rest c = overflow_mul-root c.before

pub overflow_sub-rest : goal.overflow_sub-rest
overflow_sub-rest c = c.loop-root-test.false

root-small : (c : goal.At-loop-root-2) → c.loop-root-2.root < 2 ^ 32
root-small c = let s = c in small c.loop-root-2.root c.loop-root-2.rest s.args.n s.ranges.n c.loop-root-2.invariant

pub overflow_mul-root-in-loop-root-2 : goal.overflow_mul-root-in-loop-root-2
overflow_mul-root-in-loop-root-2 c = omega (arith, root-small c)

pub overflow_mul-rest-in-loop-root-2 : goal.overflow_mul-rest-in-loop-root-2
overflow_mul-rest-in-loop-root-2 c = overflow_mul-root-in-loop-root-2 c.before

pub overflow_add-root : goal.overflow_add-root
overflow_add-root c = omega (arith, root-small c.before)

pub loop-root-2-preserved : goal.loop-root-2-preserved
loop-root-2-preserved c = let l = c.loop-root-2 in next l.root l.rest _ l.invariant (omega (arith, c.loop-root-2-test.true))

pub returns : goal.returns
returns c = (c.loop-root-2.invariant, c.loop-root-2-test.false)
