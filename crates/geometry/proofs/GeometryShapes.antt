-- Shapes worked out by the definitions: rings and boxes extruded, and totals of small region lists.
use Rattle.std.proofs.Common.{ℕ, ◌≡◌, refl, false, [], ◌∷◌, pos, Float}
use lib.Ieee.{nan, inf, fin, add, sub, mul, div, lt, eq, le, of_bits, round}
use Rattle.lists.specs.Answer.{Answer, refused, given, fold_answer}
use Rattle.lists.specs.Lists.{fold_below, all_below, any_below}
use Rattle.binary64.specs.Numbers.{at_most, abs}
use Rattle.openrdson_core.specs.Points.{ring_fault}
use Rattle.openrdson_core.specs.Area.{shoelace, signed_area}
use Rattle.openrdson_core.specs.Bounds.{the_bbox, bounds_of}
use Rattle.openrdson_core.specs.Rectangle.{on_corner, on_some_corner, fills_corners, fills_bounds}
use Rattle.openrdson_core.specs.Solids.{volume}
use Rattle.openrdson_core.specs.declared.solids.Solid.TheVariants.{Box, Prism}
use Rattle.openrdson_core.specs.declared.solids.SolidRegion.{SolidRegion}
use Rattle.geometry.specs.Regions.{Regions, the_regions, the_region, no_polygon, even_regions, solid_at, region_at}
use Rattle.geometry.specs.Extrude.{solid_of, region_of, extrude_polygon, extrude_box}
use Rattle.geometry.specs.Volumes.{row_volume, total_volume}

-- ---- numbers: 0, 1, 2, 3, 6 and 7

abbrev zero : Float
zero = fin false 0 (pos 0)

abbrev one : Float
one = fin false 1 (pos 0)

abbrev two : Float
two = fin false 1 (pos 1)

abbrev three : Float
three = fin false 3 (pos 0)

abbrev six : Float
six = fin false 3 (pos 1)

abbrev seven : Float
seven = fin false 7 (pos 0)

-- ---- extruding

-- the bow-tie (0,0), (1,1), (1,0), (0,1) from 0 up to a height, of a material and net 5
abbrev bow_tie : Float → ℕ → Answer SolidRegion
bow_tie top material = extrude_polygon (zero ∷ one ∷ one ∷ zero ∷ []) (zero ∷ one ∷ zero ∷ one ∷ []) zero top material 5

-- it is a box
pub bow_tie_box : bow_tie three 1 ≡ given (the_region 1 5 no_polygon (Box zero zero one one zero three))
unfolding extrude_polygon region_of solid_of ring_fault fills_bounds fills_corners on_some_corner on_corner bounds_of fold_below all_below any_below at_most abs sub mul lt eq le round of_bits
bow_tie_box = refl

-- 768 is the largest material, and 0 is none
pub largest_material : bow_tie three 768 ≡ given (the_region 768 5 no_polygon (Box zero zero one one zero three))
unfolding extrude_polygon region_of solid_of ring_fault fills_bounds fills_corners on_some_corner on_corner bounds_of fold_below all_below any_below at_most abs sub mul lt eq le round of_bits
largest_material = refl

pub no_material : bow_tie three 0 ≡ given (the_region 0 5 no_polygon (Box zero zero one one zero three))
unfolding extrude_polygon region_of solid_of ring_fault fills_bounds fills_corners on_some_corner on_corner bounds_of fold_below all_below any_below at_most abs sub mul lt eq le round of_bits
no_material = refl

pub material_past : bow_tie three 769 ≡ refused 15
unfolding extrude_polygon region_of ring_fault all_below at_most
material_past = refl

-- a height that is no number comes before the material
pub height_first : bow_tie nan 769 ≡ refused 1
unfolding extrude_polygon region_of ring_fault all_below at_most
height_first = refl

-- the triangle (0,0), (1,0), (0,1) is a prism of its three points; its top may be below its bottom
pub triangle_prism : extrude_polygon (zero ∷ one ∷ zero ∷ []) (zero ∷ zero ∷ one ∷ []) two zero 7 0 ≡ given (the_region 7 0 no_polygon (Prism two zero 0 3))
unfolding extrude_polygon region_of solid_of ring_fault fills_bounds fills_corners on_some_corner on_corner bounds_of fold_below all_below any_below at_most abs sub mul lt eq le round of_bits
triangle_prism = refl

-- an x too many, before its number
pub ring_uneven : extrude_polygon (zero ∷ nan ∷ []) (zero ∷ []) nan nan 769 0 ≡ refused 16
unfolding extrude_polygon ring_fault
ring_uneven = refl

-- a box of explicit bounds is taken as it is given; a side that is infinite comes before the material
pub box_as_given : extrude_box (the_bbox one one zero zero) three two 768 9 ≡ given (the_region 768 9 no_polygon (Box one one zero zero three two))
unfolding extrude_box region_of at_most
box_as_given = refl

pub box_side_first : extrude_box (the_bbox zero zero (inf false) one) zero one 769 9 ≡ refused 1
unfolding extrude_box at_most
box_side_first = refl

pub box_material_past : extrude_box (the_bbox zero zero one one) zero one 769 9 ≡ refused 15
unfolding extrude_box region_of at_most
box_material_past = refl

-- ---- totals

-- no rows: +0
pub empty_total : total_volume (the_regions [] [] [] [] [] [] [] [] [] [] [] []) [] [] ≡ given zero
unfolding total_volume even_regions of_bits fold_answer
empty_total = refl

-- Two rows: the box 0..2 by 0..1 by 0..3 with a start and a count that end past the points, and a prism from 0 to 2 over points 1 to 3 whose first four
-- bounds are no numbers. Their kinds and materials are given, and the box's top.
abbrev rows : ℕ → ℕ → ℕ → ℕ → Float → Regions
rows kind₀ kind₁ material₀ material₁ top =
    the_regions (kind₀ ∷ kind₁ ∷ []) (zero ∷ nan ∷ []) (zero ∷ nan ∷ []) (two ∷ nan ∷ []) (one ∷ nan ∷ []) (zero ∷ zero ∷ []) (top ∷ two ∷ [])
    (4294967295 ∷ 1 ∷ []) (4294967295 ∷ 3 ∷ []) (material₀ ∷ material₁ ∷ []) (0 ∷ 0 ∷ []) (no_polygon ∷ 0 ∷ [])

-- (7,7), then the triangle (0,0), (1,0), (0,1)
abbrev total : Regions → Answer Float
total r = total_volume r (seven ∷ zero ∷ one ∷ zero ∷ []) (seven ∷ zero ∷ zero ∷ one ∷ [])

-- 6 and 1
pub box_and_prism : total (rows 0 1 1 768 three) ≡ given seven
unfolding total_volume even_regions row_volume region_at solid_at volume ring_fault signed_area shoelace fold_below all_below at_most abs add sub mul div round of_bits lt fold_answer
box_and_prism = refl

-- as a prism the first row's part ends past the points; as a box the second has bounds that are no numbers; there is no kind 2
pub part_past : total (rows 1 1 1 1 three) ≡ refused 15
unfolding total_volume even_regions row_volume region_at solid_at fold_answer
part_past = refl

pub bounds_not_numbers : total (rows 0 0 1 1 three) ≡ refused 1
unfolding total_volume even_regions row_volume region_at solid_at volume at_most abs add sub mul round of_bits fold_answer
bounds_not_numbers = refl

pub no_such_kind : total (rows 0 2 1 1 three) ≡ refused 15
unfolding total_volume even_regions row_volume region_at solid_at volume at_most abs add sub mul round of_bits fold_answer
no_such_kind = refl

pub row_material_past : total (rows 0 1 1 769 three) ≡ refused 15
unfolding total_volume even_regions row_volume region_at solid_at volume at_most abs add sub mul round of_bits fold_answer
row_material_past = refl

-- region by region: the first row's number comes before the second's kind, and after its own material
pub number_first : total (rows 0 2 1 1 nan) ≡ refused 1
unfolding total_volume even_regions row_volume region_at solid_at volume at_most fold_answer
number_first = refl

pub material_first : total (rows 0 2 769 1 nan) ≡ refused 15
unfolding total_volume even_regions row_volume region_at solid_at fold_answer
material_first = refl

-- a net too few, before all that is against the row
pub nets_uneven : total_volume (the_regions (2 ∷ []) (nan ∷ []) (nan ∷ []) (nan ∷ []) (nan ∷ []) (nan ∷ []) (nan ∷ []) (9 ∷ []) (9 ∷ []) (769 ∷ []) [] (0 ∷ [])) [] [] ≡ refused 16
unfolding total_volume even_regions
nets_uneven = refl
