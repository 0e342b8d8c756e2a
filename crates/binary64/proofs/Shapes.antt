-- Worked shapes of the definitions, each computed. Assumes nothing.
use Rattle.std.proofs.Common.{◌≡◌, ◌+◌, ◌-◌, ◌^◌, true, false, pos, negsuc, refl}
use lib.Ieee.{fin, binary64, of_bits, size, round}
use Rattle.binary64.specs.Rounding.{ceil_capped, nearest_capped}
use Rattle.binary64.specs.Root.{sqrt_of, root_rounded, root, root_of, next_digit}

-- 2 + 2 ^ -40 rounds up to 3
pub ceil_past_two : ceil_capped (fin false (2 ^ 41 + 1) (negsuc 39)) ≡ 3
unfolding ceil_capped
ceil_past_two = refl

-- 2.5 rounds to 3, and -2.5 to -3
pub half_up : nearest_capped (fin false 5 (negsuc 0)) ≡ pos 3
unfolding nearest_capped
half_up = refl

pub half_down : nearest_capped (fin true 5 (negsuc 0)) ≡ negsuc 2
unfolding nearest_capped
half_down = refl

-- the largest number below 0.5, 0.5 - 2 ^ -54, rounds to 0
pub below_half : nearest_capped (fin false (2 ^ 53 - 1) (negsuc 53)) ≡ pos 0
unfolding nearest_capped
below_half = refl

-- the root of 2, by its bits
pub root_two : sqrt_of (fin false 1 (pos 1)) ≡ of_bits binary64 0x3ff6_a09e_667f_3bcd
unfolding sqrt_of root_rounded root root_of next_digit size round of_bits
root_two = refl

-- the root of the smallest value, 2 ^ -1074, is 2 ^ -537
pub root_least : sqrt_of (fin false 1 (negsuc 1073)) ≡ fin false 1 (negsuc 536)
unfolding sqrt_of root_rounded root root_of next_digit size round
root_least = refl
