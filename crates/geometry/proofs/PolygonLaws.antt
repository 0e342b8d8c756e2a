-- A layout's polygons: their lists, equally long, and their parts, checked.
use Rattle.std.proofs.Common.{ℕ, ◌<◌, ◌≡◌, List, [], ◌∷◌, eqb, length, get_or, true, lit<, eqb-true}
use Rattle.std.specs.Prelude.{Float}
use Rattle.lists.specs.Answer.{given}
use Rattle.lists.proofs.Folds.{steps_passed}
use Rattle.lists.proofs.Scans.{both}
use Rattle.geometry.specs.Regions.{all_equal}
use Rattle.geometry.specs.Polygons.{Polygons, even_polygons, EvenPolygons, part_fault, parts_fault}
use Rattle.geometry.proofs.RegionLaws.{equal_at}

pub polygons_even_of : (p : Polygons) → even_polygons p ≡ true → EvenPolygons p
unfolding even_polygons
polygons_even_of p e =
    let lengths : List ℕ = length p.nets ∷ length p.starts ∷ length p.counts ∷ [] in
    let w = both (all_equal (length p.layers) lengths) (eqb (length p.xs) (length p.ys)) e in
    let each : (k : ℕ) → k < 3 → get_or lengths k 0 ≡ length p.layers = equal_at (length p.layers) lengths w.0 in
    record { nets = each 0 (lit< tt); starts = each 1 (lit< tt); counts = each 2 (lit< tt); points = eqb-true _ _ w.1 }

-- every polygon has passed
pub parts_passed : (xs ys : List Float) (starts counts : List ℕ) (n : ℕ) → parts_fault xs ys starts counts n ≡ given tt → (i : ℕ) → i < n
    → part_fault xs ys (get_or starts i 0) (get_or counts i 0) ≡ given tt
parts_passed xs ys starts counts n e i h =
    (steps_passed (λ (u : Unit {0}) (j : ℕ). part_fault xs ys (get_or starts j 0) (get_or counts j 0)) tt n e i h).2
