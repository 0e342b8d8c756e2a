-- A number in range beside zero: it is no not-a-number, and is above zero, or below, exactly where it is not at most, or at least, zero. Assumes nothing.
use Rattle.std.proofs.Common.{◌≡◌, ℕ, Bool, true, false, not, pos, refl}
use lib.Ieee.{Float, nan, inf, fin, is_nan, lt, le, of_bits}
use Rattle.binary64.specs.Constants.{zero64}
use Rattle.binary64.specs.Numbers.{at_most}
use Rattle.binary64.proofs.Order.{never, at_most_low, le_refl_right, not_lt_le, lt_not_le}

pub number : (k : ℕ) (x : Float) → at_most k x ≡ true → is_nan x ≡ false
unfolding at_most is_nan
number k nan h = never h
number k (inf s) h = never h
number k (fin s m e) h = refl

zero_itself : le zero64 zero64 ≡ true
unfolding of_bits le
zero_itself = refl

-- a number is at most zero exactly where it is not above zero, and at least zero exactly where it is not below zero
pub not_above : (k : ℕ) (x : Float) → at_most k x ≡ true → le x zero64 ≡ not (lt zero64 x)
not_above k x h = go (lt zero64 x) refl
  where
    go : (b : Bool) → lt zero64 x ≡ b → le x zero64 ≡ not b
    go true e = lt_not_le zero64 x e
    go false e = not_lt_le zero64 x zero_itself (le_refl_right (fin true 1 (pos k)) x (at_most_low k x h)) e

pub not_below : (k : ℕ) (x : Float) → at_most k x ≡ true → le zero64 x ≡ not (lt x zero64)
not_below k x h = go (lt x zero64) refl
  where
    go : (b : Bool) → lt x zero64 ≡ b → le zero64 x ≡ not b
    go true e = lt_not_le x zero64 e
    go false e = not_lt_le x zero64 (le_refl_right (fin true 1 (pos k)) x (at_most_low k x h)) zero_itself e
