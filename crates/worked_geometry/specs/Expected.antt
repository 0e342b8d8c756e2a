-- The two rows whose total is asked.
use Rattle.std.specs.Prelude.{ℕ, List, [], ◌∷◌, Float}
use Rattle.std.specs.Float.{binary64}
use Rattle.std.specs.Float.Ieee.{of_bits}
use Rattle.binary64.specs.Numbers.{◌⊘◌}
use Rattle.binary64.specs.Constants.{zero64, two64}
use Rattle.geometry.specs.Regions.{Regions, the_regions, no_polygon}

-- 1.0
abbrev one64 : Float
one64 = of_bits binary64 0x3ff0_0000_0000_0000

-- Two rows of these kinds and materials: the box 0..2 by 0..1 from 0 to a top, whose start and count are the largest u32, and a prism from 0 to 2 over
-- points 1 to 3, whose first four bounds are not-a-number.
abbrev pub two_rows : List ℕ → List ℕ → Float → Regions
two_rows kinds materials top =
    the_regions kinds (zero64 ∷ (zero64 ⊘ zero64) ∷ []) (zero64 ∷ (zero64 ⊘ zero64) ∷ []) (two64 ∷ (zero64 ⊘ zero64) ∷ []) (one64 ∷ (zero64 ⊘ zero64) ∷ [])
    (zero64 ∷ zero64 ∷ []) (top ∷ two64 ∷ []) (no_polygon ∷ 1 ∷ []) (no_polygon ∷ 3 ∷ []) materials (0 ∷ 0 ∷ []) (no_polygon ∷ 0 ∷ [])
