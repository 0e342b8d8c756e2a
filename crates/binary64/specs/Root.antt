-- The correctly rounded square root of a binary64 number (IEEE 754).
use Rattle.std.specs.Prelude.{ℕ, zero, suc, ◌+◌, ◌*◌, ◌/◌, ◌^◌, false, cond, ◌==◌, nat_le, Float}
use Rattle.std.specs.Float.{nan, inf, fin, binary64}
use Rattle.std.specs.Float.Ieee.{up, down, size, round}

-- one binary digit more: r is twice the root of n / 4
unfoldable pub next_digit : ℕ → ℕ → ℕ
next_digit r n = cond (nat_le ((r + 1) * (r + 1)) n) (r + 1) r

-- the root of n, cut to a whole number, of an n below 4 ^ k
unfoldable pub root_of : ℕ → ℕ → ℕ
root_of zero n = 0
root_of (suc k) n = next_digit (root_of k (n / 4) * 2) n

-- the root of n, cut to a whole number
unfoldable pub root : ℕ → ℕ
root n = root_of (size n) n

-- The root of n / d, rounded once. r is its first 600 binary places; where they are not all of it, a last digit 1 stands for the rest.
unfoldable pub root_rounded : ℕ → ℕ → Float
root_rounded n d =
    let r = root (n * 4 ^ 600 / d) in
    round binary64 false (r * 2 + cond (r * r * d == n * 4 ^ 600) 0 1) (2 ^ 601)

-- A zero keeps its sign, and below zero there is no root.
unfoldable pub sqrt_of : Float → Float
sqrt_of nan = nan
sqrt_of (inf s) = cond s nan (inf false)
sqrt_of (fin s zero e) = fin s zero e
sqrt_of (fin s (suc m) e) = cond s nan (root_rounded (suc m * up e) (down e))
