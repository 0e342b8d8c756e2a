-- Partial sums of the shoelace rule, with the points' range. Contracts of private functions cite these definitions; no public one does.
use Rattle.std.specs.Prelude.{◌≡◌, ℕ, ◌+◌, ◌<◌, Bool, true, List, Float}
use Rattle.std.specs.Float.Ieee.{le}
use Rattle.lists.specs.Lists.{all_below}
use Rattle.binary64.specs.Numbers.{at}
use Rattle.openrdson_core.specs.Points.{point_at, point_in}
use Rattle.openrdson_core.specs.Area.{shoelace}

-- the `count` entries from place `from` on are numbers
abbrev pub Numbers : List Float → ℕ → ℕ → Type 0
Numbers l from count = (k : ℕ) → k < count → le (at l (from + k)) (at l (from + k)) ≡ true

-- the sum over the first i points, and whether these are in range
pub record Summed (xs ys : List Float) (i : ℕ) (sum : Float) (fine : Bool) : Type 0 where
  pub total : sum ≡ shoelace xs ys i
  pub noted : fine ≡ all_below i (λ k. point_in (point_at xs ys k))
