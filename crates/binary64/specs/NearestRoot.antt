-- What it means that no other binary64 number is as near to the root of x as `sqrt_of x`.
use Rattle.std.specs.Prelude.{ℕ, ◌+◌, ◌*◌, ◌^◌, ◌<◌, false, T, Float}
use Rattle.std.specs.Float.{binary64}
use Rattle.std.specs.Float.Ieee.{fits}
use Rattle.std.specs.Float.Ieee.Exact.{HasValue}
use Rattle.binary64.specs.Root.{sqrt_of}

-- Every finite binary64 number is a whole number of units 2 ^ -1074, the smallest value above zero: `HasValue y false Y (2 ^ 1074)` says that y is Y of
-- them, and not below zero. Let x be U units, `sqrt_of x` A units, and y any other binary64 number, Y units. `sqrt_of x` is nearer to the root of x than y
-- is where the root lies on its side of the middle of the two, (A + Y) / 2. The root is that of U * 2 ^ 1074 in units, so twice the root, squared, is
-- U * 2 ^ 1074 * 4, which is compared with A + Y squared.
-- A number below zero is further from the root than zero is. So no other number is as near, and no rule for ties is wanted.
pub record NearestRoot (x : Float) : Type 0 where
  pub U : ℕ
  pub A : ℕ
  pub number : HasValue x false U (2 ^ 1074)
  pub rounded : HasValue (sqrt_of x) false A (2 ^ 1074)
  pub above : (y : Float) (Y : ℕ) → T (fits binary64 y) → HasValue y false Y (2 ^ 1074) → A < Y → U * 2 ^ 1074 * 4 < (A + Y) * (A + Y)
  pub below : (y : Float) (Y : ℕ) → T (fits binary64 y) → HasValue y false Y (2 ^ 1074) → Y < A → (A + Y) * (A + Y) < U * 2 ^ 1074 * 4
