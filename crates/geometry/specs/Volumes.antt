-- The total volume of a region list.
use Rattle.std.specs.Prelude.{ℕ, Bool, List, eqb, leb, length, Float}
use Rattle.lists.specs.Answer.{Answer, given, unless, and_then, map_answer, fold_answer}
use Rattle.binary64.specs.Numbers.{◌⊕◌}
use Rattle.binary64.specs.Constants.{zero64}
use Rattle.openrdson_core.specs.Solids.{of_solid, volume}
use Rattle.openrdson_core.specs.declared.solids.SolidRegion.{SolidRegion}
use Rattle.geometry.specs.Regions.{Regions, even_regions, region_at}

-- the volume of row i: 15 for kind, part or material, 2, 1
unfoldable pub row_volume : Regions → List Float → List Float → ℕ → Answer Float
row_volume r xs ys i = and_then (region_at r (length xs) i) (λ (g : SolidRegion). of_solid xs ys g.solid (volume xs ys g.solid))

-- the sum over the first n rows in order, from +0; the first row that is refused decides
abbrev pub total_to : Regions → List Float → List Float → ℕ → Answer Float
total_to r xs ys n = fold_answer n (λ (sum : Float) (i : ℕ). map_answer (λ (v : Float). sum ⊕ v) (row_volume r xs ys i)) zero64

-- of a region list, even or not, of so many rows, and of point lists of m and n entries: 16, 2
abbrev pub lists_fault : Bool → ℕ → ℕ → ℕ → Answer (Unit {0})
lists_fault even rows m n =
    unless even 16
    (unless (eqb m n) 16
    (unless (leb rows 4096) 2
    (unless (leb m 2097152) 2
    (given tt))))

-- 16, 2 for the regions and the points, then row by row
unfoldable pub total_volume : Regions → List Float → List Float → Answer Float
total_volume r xs ys =
    and_then (lists_fault (even_regions r) (length r.kinds) (length xs) (length ys)) (λ _. total_to r xs ys (length r.kinds))
