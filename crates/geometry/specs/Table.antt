-- How the program keeps the plans of the rows of a layer-name block: one list.
use Rattle.std.specs.Prelude.{ℕ, List, ℤ, get_or, Option, Some, None, Err}
use Rattle.openrdson_core.specs.Layout.{pattern_of, row_of_pattern}
use Rattle.geometry.specs.Plans.{Plan}
use Rattle.geometry.specs.declared.plans.Skip.TheVariants.{Unnamed}

-- the plan of the row found, or that there is none
abbrev pub plan_of_row : List Plan → Option ℕ → Plan
plan_of_row plans None = Err Unnamed
plan_of_row plans (Some i) = get_or plans i (Err Unnamed)

-- the plan of a layer, by the block of layer names
unfoldable pub layer_plan : List ℕ → List Plan → ℤ → Plan
layer_plan names plans layer = plan_of_row plans (row_of_pattern names (pattern_of layer))
