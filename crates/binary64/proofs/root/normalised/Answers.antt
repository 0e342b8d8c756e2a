-- `normalised` meets its contract: m doubles as e falls, so m * 2 ^ e stays, and e cannot reach 0 while m is small. Assumes nothing.
use Rattle.std.proofs.Common.{◌≡◌, ℕ, zero, suc, ◌-◌, ◌*◌, ◌^◌, ◌<◌, ◌≤◌, sym, refl, ap, ◌∙◌, le_refl, mul_assoc, zero-mul, mul-one, arith}
use native.Mathlib.Nat.{pow-succ'}
use Rattle.binary64.proofs.root.normalised.Goals as goal

some : (m p : ℕ) → 2 ^ 53 ≤ m * p → 0 < m
some zero p h = let z : zero * p ≡ 0 = zero-mul p in omega arith
some (suc m) p h = omega arith

falls : (m e N : ℕ) → m * 2 ^ e ≡ N → m < 2 ^ 53 → 2 ^ 53 ≤ N → (1 ≤ e) × (m * 2 * 2 ^ (e - 1) ≡ N)
falls m zero N p h k = let z : m * 1 ≡ m = mul-one m in absurd (clash (m * 1) m N z p h k)
  where
    clash : (a m N : ℕ) → a ≡ m → a ≡ N → m < 2 ^ 53 → 2 ^ 53 ≤ N → ⊥
    clash a m N e p h k = omega arith
falls m (suc e) N p h k = (omega arith, mul_assoc m 2 (2 ^ (suc e - 1)) ∙ ap (λ (z : ℕ). m * (2 * 2 ^ z)) (less e) ∙ ap (λ (z : ℕ). m * z) (sym (pow-succ' 2 e)) ∙ p)
  where
    less : (e : ℕ) → suc e - 1 ≡ e
    less e = omega arith

pub loop-m-init : goal.loop-m-init
loop-m-init c = (refl, c.requires.0, some c.args.m0 (2 ^ c.args.e0) c.requires.1, le_refl c.args.e0)

step : (c : goal.In-loop-m) → (1 ≤ c.loop-m.e) × (c.loop-m.m * 2 * 2 ^ (c.loop-m.e - 1) ≡ c.args.m0 * 2 ^ c.args.e0)
step c = let l = c.loop-m in falls l.m l.e _ l.invariant.0 l.invariant.1 c.requires.1

pub overflow_sub-e : goal.overflow_sub-e
overflow_sub-e c = (step c).0

pub loop-m-preserved : goal.loop-m-preserved
loop-m-preserved c = ((step c).1, omega arith, omega arith, omega arith)

pub returns : goal.returns
returns c = (c.loop-m.invariant.0, omega arith, omega arith, c.loop-m.invariant.3)
