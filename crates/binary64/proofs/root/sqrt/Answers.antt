-- `sqrt` meets its contract: what is not a finite number above zero has the root that the definition says. Assumes nothing.
use Rattle.std.proofs.Common.{◌≡◌, ℕ, zero, suc, ◌*◌, ◌<◌, ◌≤◌, true, false, T, pos, sym, refl, ◌∙◌, subst, zero-lt-suc, zero-mul, suc-ne-zero, arith, lt→ltb, ltb-false, ltb-true}
use lib.Ieee.{Float, nan, inf, fin, up, down, eq, lt, div, of_bits}
use lib.Ieee.Positive.{positive}
use Rattle.binary64.specs.Root.{sqrt_of}
use Rattle.binary64.proofs.Sizes.{is_zero, zero_digits}
use Rattle.binary64.proofs.root.sqrt.Goals as goal

of-infinity : (x : Float) → eq x (inf false) ≡ true → x ≡ sqrt_of x
unfolding sqrt_of eq
of-infinity nan h = refl
of-infinity (inf true) h = absurd (subst T (sym h) tt)
of-infinity (inf false) h = refl
of-infinity (fin s m e) h = absurd (subst T (sym h) tt)

above : (x : Float) → lt (fin false 0 (pos 0)) x ≡ true → eq x (inf false) ≡ false → T (positive x)
unfolding eq lt
above nan h k = absurd (subst T (sym h) tt)
above (inf true) h k = absurd (subst T (sym h) tt)
above (inf false) h k = absurd (subst T k tt)
above (fin true m e) h k = absurd (subst T (sym h) tt)
above (fin false zero e) h k = absurd (none (0 * 1 * down e) (0 * up e) (zero-mul (up e)) (ltb-true (0 * 1 * down e) (0 * up e * 1) h))
  where
    none : (a b : ℕ) → b ≡ 0 → a < b * 1 → ⊥
    none a b e h = omega arith
above (fin false (suc m) e) h k = lt→ltb 0 (suc m) (zero-lt-suc m)

of_zero : (x : Float) → eq x (fin false 0 (pos 0)) ≡ true → x ≡ sqrt_of x
unfolding sqrt_of eq
of_zero nan h = refl
of_zero (inf s) h = absurd (subst T (sym h) tt)
of_zero (fin s zero e) h = refl
of_zero (fin s (suc m) e) h = absurd (suc-ne-zero m (zero_digits s (suc m) e h))

-- not above zero, and no zero
none_below : (x : Float) → lt (fin false 0 (pos 0)) x ≡ false → eq x (fin false 0 (pos 0)) ≡ false → nan ≡ sqrt_of x
unfolding sqrt_of lt
none_below nan h k = refl
none_below (inf true) h k = refl
none_below (inf false) h k = absurd (subst T h tt)
none_below (fin true zero e) h k = absurd (subst T (sym (is_zero true zero e (zero-mul (up e))) ∙ k) tt)
none_below (fin true (suc m) e) h k = refl
none_below (fin false m e) h k = absurd (subst T (sym (is_zero false m e (none (0 * 1 * down e) (m * up e) (zero-mul (down e)) (ltb-false (0 * 1 * down e) (m * up e * 1) h))) ∙ k) tt)
  where
    none : (a b : ℕ) → a ≡ 0 → b * 1 ≤ a → b ≡ 0
    none a b e h = omega arith

pub returns-then-x-2 : goal.returns-then-x-2
unfolding of_bits div
returns-then-x-2 c = of-infinity c.args.x c.if-x-2.true

pub root_above_zero-requires : goal.root_above_zero-requires
unfolding of_bits div
root_above_zero-requires c = above c.args.x c.if-x.true c.if-x-2.false

pub returns-then-x-3 : goal.returns-then-x-3
unfolding of_bits
returns-then-x-3 c = of_zero c.args.x c.if-x-3.true

pub returns : goal.returns
unfolding of_bits div
returns c = none_below c.args.x c.if-x.false c.if-x-3.false
