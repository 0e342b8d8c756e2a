-- The scanline's bands: between the heights of a ring's vertices.
use Rattle.std.specs.Prelude.{◌≡◌, true, cond, List, [], ◌∷◌, Float}
use Rattle.std.specs.Float.Ieee.{lt}
use Rattle.lists.specs.Lists.{all_of}
use Rattle.lists.specs.Sorts.{sort_onto, sort_by}
use Rattle.binary64.specs.Numbers.{◌⊕◌, ◌⊖◌, ◌⊗◌, abs, at_most}
use Rattle.binary64.specs.Constants.{half64, tiny15}
use Rattle.meshing.specs.declared.levels.Band.{Band}

-- l without the heights that are within 1e-15 of the last one kept, which is `last` at first
unfoldable pub apart_from : Float → List Float → List Float
apart_from last [] = []
apart_from last (y ∷ l) =
    let dropped = apart_from last l in
    let kept = y ∷ apart_from y l in
    cond (lt (abs (y ⊖ last)) tiny15) dropped kept

-- l without the heights that are within 1e-15 of the last one kept; the first is kept
unfoldable pub apart : List Float → List Float
apart [] = []
apart (y ∷ l) = y ∷ apart_from y l

-- the heights, sorted stably, without those too close to the last kept
unfoldable pub levels : List Float → List Float
levels ys = apart (sort_by lt ys)

abbrev pub the_band : Float → Float → Band
the_band low high = record { low = low; high = high }

-- from one level to the next: the bands above low
abbrev pub bands_from : Float → List Float → List Band
bands_from low [] = []
bands_from low (high ∷ l) = the_band low high ∷ bands_from high l

-- the bands between levels
abbrev pub bands_of : List Float → List Band
bands_of [] = []
bands_of (low ∷ l) = bands_from low l

-- the height half way up a band
abbrev pub middle : Band → Float
middle b = half64 ⊗ (b.low ⊕ b.high)

-- ---- what the code keeps while it sorts: lists that have the same levels, whatever heights are put into both
abbrev pub LevelsAlike : List Float → List Float → Type 0
LevelsAlike a b = (rest : List Float) → all_of (at_most 20) rest ≡ true → apart (sort_onto lt a rest) ≡ apart (sort_onto lt b rest)
