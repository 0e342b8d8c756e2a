-- A layout stacked by the definitions: a square, a polygon of a layer without a name, and a triangle.
use Rattle.std.proofs.Common.{ℕ, ◌≡◌, refl, false, List, [], ◌∷◌, ◌++◌, pos, replicate, Float}
use lib.Ieee.{fin, add, sub, mul, lt, eq, le, of_bits, round}
use Rattle.lists.specs.Answer.{refused, given, fold_answer}
use Rattle.lists.specs.Lists.{runs, elems, first, fold_below, all_below, any_below}
use Rattle.binary64.specs.Numbers.{at_most, abs}
use Rattle.openrdson_core.specs.Bytes.{same, zeros, name_length, name_ok, little, starts_with, contains}
use Rattle.openrdson_core.specs.Blocks.{figures_ok, name_or_none, block_ok, row_of}
use Rattle.openrdson_core.specs.Layout.{row_of_pattern, is_marker}
use Rattle.openrdson_core.specs.Tech.{Blocks, the_blocks, figures_in, stack_in, material_of, blocks_fault}
use Rattle.openrdson_core.specs.Points.{ring_fault}
use Rattle.openrdson_core.specs.Bounds.{bounds_of}
use Rattle.openrdson_core.specs.Rectangle.{on_corner, on_some_corner, fills_corners, fills_bounds}
use Rattle.openrdson_core.specs.declared.solids.Solid.TheVariants.{Box, Prism}
use Rattle.geometry.specs.Regions.{Regions, the_regions, the_region, even_regions}
use Rattle.geometry.specs.Extrude.{solid_of}
use Rattle.geometry.specs.Polygons.{Polygons, the_polygons, even_polygons, part_fault, part_solid}
use Rattle.geometry.specs.Ranges.{diffusion_range, layer_range, stack_range}
use Rattle.std.specs.Prelude.{Ok, Err}
use Rattle.geometry.specs.Plans.{Plan, plan_of_physical, plan_of_name, plan_of}
use Rattle.geometry.specs.declared.plans.Skip.TheVariants.{NoRange}
use Rattle.geometry.specs.Stack.{regions_to, outcomes_to, fitted, stack_fault, assemble_stack}

abbrev zero : Float
zero = fin false 0 (pos 0)

abbrev one : Float
one = fin false 1 (pos 0)

abbrev two : Float
two = fin false 1 (pos 1)

-- ---- the blocks: layer 7 is named M, which the conducting map takes to A, a conductor of height 1 and thickness 1

-- a name of one letter
abbrev name : ℕ → List ℕ
name letter = letter ∷ replicate 31 0

-- a block without rows
abbrev empty : List ℕ
empty = 0 ∷ 0 ∷ []

-- 1 as a binary64, little-endian
abbrev one_bytes : List ℕ
one_bytes = 0 ∷ 0 ∷ 0 ∷ 0 ∷ 0 ∷ 0 ∷ 240 ∷ 63 ∷ []

abbrev blocks : Blocks
blocks =
    the_blocks (1 ∷ 0 ∷ 7 ∷ 0 ∷ name 77) (1 ∷ 0 ∷ name 77 ++ name 65) empty (1 ∷ 0 ∷ name 65 ++ (3 ∷ one_bytes ++ one_bytes)) empty empty

-- ---- the polygons: the unit square on layer 7 and on layer 8, and its first three corners on layer 7

abbrev polygons : Polygons
polygons =
    the_polygons (pos 7 ∷ pos 8 ∷ pos 7 ∷ []) (5 ∷ 6 ∷ 4 ∷ []) (0 ∷ 0 ∷ 0 ∷ []) (4 ∷ 4 ∷ 3 ∷ []) (zero ∷ one ∷ one ∷ zero ∷ []) (zero ∷ zero ∷ one ∷ one ∷ [])

-- region lists of n rows
abbrev lent : ℕ → Regions
lent n =
    the_regions (replicate n 9) (replicate n zero) (replicate n zero) (replicate n zero) (replicate n zero) (replicate n zero) (replicate n zero) (replicate n 9)
    (replicate n 9) (replicate n 9) (replicate n 9) (replicate n 9)

-- two regions from height 1 to height 2, of material 1: a box, then a prism
pub square_and_triangle : assemble_stack blocks polygons (lent 2) (9 ∷ 9 ∷ 9 ∷ [])
    ≡ given (record {
      regions = the_region 1 5 0 (Box zero zero one one one two) ∷ the_region 1 4 2 (Prism one two 0 3) ∷ [];
      outcomes = 0 ∷ 2 ∷ 1 ∷ [];
    })
unfolding assemble_stack stack_fault blocks_fault block_ok name_ok name_length zeros same little figures_ok name_or_none stack_in figures_in even_polygons even_regions part_fault ring_fault fitted regions_to outcomes_to runs elems plan_of plan_of_name plan_of_physical stack_range layer_range diffusion_range row_of_pattern row_of is_marker starts_with contains material_of part_solid solid_of fills_bounds fills_corners on_some_corner on_corner bounds_of first fold_below fold_answer all_below any_below at_most abs add sub mul lt eq le round of_bits
square_and_triangle = refl

-- a row too few, and an outcome too few
pub no_room : assemble_stack blocks polygons (lent 1) (9 ∷ 9 ∷ 9 ∷ []) ≡ refused 12
unfolding assemble_stack stack_fault blocks_fault block_ok name_ok name_length zeros same little figures_ok name_or_none stack_in figures_in even_polygons even_regions part_fault ring_fault fitted regions_to outcomes_to runs elems plan_of plan_of_name plan_of_physical stack_range layer_range diffusion_range row_of_pattern row_of is_marker starts_with contains material_of part_solid solid_of fills_bounds fills_corners on_some_corner on_corner bounds_of first fold_below fold_answer all_below any_below at_most abs add sub mul lt eq le round of_bits
no_room = refl

pub few_outcomes : assemble_stack blocks polygons (lent 2) (9 ∷ 9 ∷ []) ≡ refused 12
unfolding assemble_stack stack_fault blocks_fault block_ok name_ok name_length zeros same little figures_ok name_or_none stack_in figures_in even_polygons even_regions part_fault ring_fault fitted regions_to outcomes_to runs elems plan_of plan_of_name plan_of_physical stack_range layer_range diffusion_range row_of_pattern row_of is_marker starts_with contains material_of part_solid solid_of fills_bounds fills_corners on_some_corner on_corner bounds_of first fold_below fold_answer all_below any_below at_most abs add sub mul lt eq le round of_bits
few_outcomes = refl

-- a block cut short comes before lists of unequal length, and these before a region list of unequal length
pub damaged_first : assemble_stack (the_blocks (1 ∷ 0 ∷ []) empty empty empty empty empty) (the_polygons [] (1 ∷ []) [] [] [] []) (lent 0) [] ≡ refused 14
unfolding assemble_stack stack_fault blocks_fault block_ok little
damaged_first = refl

pub nets_uneven : assemble_stack (the_blocks empty empty empty empty empty empty) (the_polygons [] (1 ∷ []) [] [] [] []) (lent 0) [] ≡ refused 16
unfolding assemble_stack stack_fault blocks_fault block_ok stack_in little even_polygons all_below
nets_uneven = refl

-- ---- plans: conductors A from 1 to 2, B from 2 without a thickness, C from 3 to 4, D from 2 to 2; vias V from A to C, W from C to A, U from A to none

abbrev figures : ℕ → List ℕ → List ℕ → List ℕ
figures flag height thickness = flag ∷ height ++ thickness

abbrev two_bytes : List ℕ
two_bytes = 0 ∷ 0 ∷ 0 ∷ 0 ∷ 0 ∷ 0 ∷ 0 ∷ 64 ∷ []

abbrev three_bytes : List ℕ
three_bytes = 0 ∷ 0 ∷ 0 ∷ 0 ∷ 0 ∷ 0 ∷ 8 ∷ 64 ∷ []

abbrev three : Float
three = fin false 3 (pos 0)

abbrev stack : Blocks
stack =
    the_blocks empty empty empty
    (4 ∷ 0 ∷ name 65 ++ name 66 ++ name 67 ++ name 68 ++ figures 3 one_bytes one_bytes ++ figures 1 two_bytes (replicate 8 0) ++ figures 3 three_bytes one_bytes ++ figures 3 two_bytes (replicate 8 0))
    empty
    (3 ∷ 0 ∷ name 86 ++ name 87 ++ name 85 ++ name 65 ++ name 67 ++ name 67 ++ name 65 ++ name 65 ++ replicate 32 0)

abbrev plan_for : ℕ → Plan
plan_for letter = plan_of_physical stack (letter ∷ [])

abbrev slab : Float → Float → ℕ → Plan
slab bottom top material = Ok (record { range = record { bottom = bottom; top = top }; material = record { 0 = material } })

pub plan_whole : plan_for 65 ≡ slab one two 1
unfolding plan_of_physical stack_range layer_range diffusion_range row_of material_of first same zeros name_length little add le lt round of_bits all_below
plan_whole = refl

-- a missing figure, and a top that is not above the bottom
pub plan_missing : plan_for 66 ≡ Err NoRange
unfolding plan_of_physical stack_range layer_range diffusion_range row_of material_of first same zeros name_length little add le lt round of_bits all_below
plan_missing = refl

pub plan_flat : plan_for 68 ≡ Err NoRange
unfolding plan_of_physical stack_range layer_range diffusion_range row_of material_of first same zeros name_length little add le lt round of_bits all_below
plan_flat = refl

-- a via: from the top of its bottom layer to the bottom of its top layer, with the via's own material; with its layers exchanged, or without one of
-- them, there is no range
pub plan_via : plan_for 86 ≡ slab two three 5
unfolding plan_of_physical stack_range layer_range diffusion_range row_of material_of first same zeros name_length little add le lt round of_bits all_below
plan_via = refl

pub plan_via_down : plan_for 87 ≡ Err NoRange
unfolding plan_of_physical stack_range layer_range diffusion_range row_of material_of first same zeros name_length little add le lt round of_bits all_below
plan_via_down = refl

pub plan_via_open : plan_for 85 ≡ Err NoRange
unfolding plan_of_physical stack_range layer_range diffusion_range row_of material_of first same zeros name_length little add le lt round of_bits all_below
plan_via_open = refl
