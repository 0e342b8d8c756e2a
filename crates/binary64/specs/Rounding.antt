-- Rounding to a whole number, capped to an integer type's range. Not-a-number gives 0.
use Rattle.std.specs.Prelude.{ℕ, ◌+◌, ◌-◌, ◌*◌, ◌/◌, ◌^◌, min, cond, ℤ, pos, neg_ℤ, Float}
use Rattle.std.specs.Float.{nan, inf, fin}
use Rattle.std.specs.Float.Ieee.{up, down}

-- n / d rounded up
abbrev pub quotient_up : ℕ → ℕ → ℕ
quotient_up n d = (n + (d - 1)) / d

-- n / d rounded to the nearest, halves up
abbrev pub quotient_half_up : ℕ → ℕ → ℕ
quotient_half_up n d = (n * 2 + d) / (d * 2)

-- x rounded up, capped to u64: a number below zero gives 0
unfoldable pub ceil_capped : Float → ℕ
ceil_capped nan = 0
ceil_capped (inf s) = cond s 0 (2 ^ 64 - 1)
ceil_capped (fin s m e) = cond s 0 (min (quotient_up (m * up e) (down e)) (2 ^ 64 - 1))

-- x rounded with halves away from zero, capped to i64
unfoldable pub nearest_capped : Float → ℤ
nearest_capped nan = pos 0
nearest_capped (inf s) = cond s (neg_ℤ (pos (2 ^ 63))) (pos (2 ^ 63 - 1))
nearest_capped (fin s m e) =
    let n = quotient_half_up (m * up e) (down e) in
    cond s (neg_ℤ (pos (min n (2 ^ 63)))) (pos (min n (2 ^ 63 - 1)))
