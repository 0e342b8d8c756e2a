-- What stacking makes of a layer: outcomes 2 to 5, tested in this order, or two heights and a material.
use Rattle.std.specs.Prelude.{ℕ, cond, List, ℤ, Option, Some, None, Result, Ok, Err}
use Rattle.std.specs.Option.{option_or}
use Rattle.std.specs.Float.Ieee.{le}
use Rattle.openrdson_core.specs.Bytes.{unpad}
use Rattle.openrdson_core.specs.Blocks.{value_at}
use Rattle.openrdson_core.specs.declared.blocks.Cell.TheVariants.{Number, Name}
use Rattle.openrdson_core.specs.Maps.{in_map}
use Rattle.openrdson_core.specs.Tech.{Blocks, material_of}
use Rattle.openrdson_core.specs.Layout.{name_of_layer, is_marker}
use Rattle.geometry.specs.Ranges.{Range, stack_range}
use Rattle.geometry.specs.declared.plans.Skip.{Skip}
use Rattle.geometry.specs.declared.plans.Skip.TheVariants.{Unnamed, Marker, Unmatched, NoRange}
use Rattle.geometry.specs.declared.plans.Slab.{Slab}

-- a range with a material, or why there is no region
abbrev pub Plan : Type 0
Plan = Result Slab Skip

-- the outcome of a polygon without a region
abbrev pub skip_number : Skip → ℕ
skip_number Unnamed = 2
skip_number Marker = 3
skip_number Unmatched = 4
skip_number NoRange = 5

-- 5 where there is no range, or its top is not above its bottom; else the range with a material
abbrev pub with_range : ℕ → Range → Plan
with_range material None = Err NoRange
with_range material (Some z) = cond (le z.top z.bottom) (Err NoRange) (Ok (record { range = z; material = record { 0 = material } }))

-- the plan of a physical name
unfoldable pub plan_of_physical : Blocks → List ℕ → Plan
plan_of_physical b physical =
    with_range (material_of b.conductors b.diffusions b.vias physical) (stack_range b.conductors b.diffusions b.vias physical)

-- 4 where no map has the name
abbrev pub with_physical : Blocks → Option (List ℕ) → Plan
with_physical b None = Err Unmatched
with_physical b (Some physical) = plan_of_physical b physical

-- the plan of a logical name: 3 for a marker; the conducting map is asked first, then the via map
unfoldable pub plan_of_name : Blocks → List ℕ → Plan
plan_of_name b name = cond (is_marker name) (Err Marker) (with_physical b (option_or (in_map b.conducting name) (in_map b.via name)))

-- 2 where the layer has no name
abbrev pub with_name : Blocks → Option (List ℕ) → Plan
with_name b None = Err Unnamed
with_name b (Some name) = plan_of_name b name

-- the plan of a layer
unfoldable pub plan_of : Blocks → ℤ → Plan
plan_of b layer = with_name b (name_of_layer b.names layer)

-- the plan of row i of the layer names
abbrev pub row_plan : Blocks → ℕ → Plan
row_plan b i = plan_of_name b (unpad (value_at Number Name b.names i))
