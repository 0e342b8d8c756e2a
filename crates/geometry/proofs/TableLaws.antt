-- The plan of a layer, by the filled list of all rows' plans.
use Rattle.std.proofs.Common.{ℕ, ℤ, ◌≡◌, List, refl}
use Rattle.std.specs.Prelude.{Option, Some, None, option_map, Err}
use Rattle.lists.specs.Lists.{put, elems}
use Rattle.lists.proofs.Fills.{put_at}
use Rattle.openrdson_core.specs.Bytes.{unpad}
use Rattle.openrdson_core.specs.Blocks.{count, value_at}
use Rattle.openrdson_core.specs.Layout.{pattern_of, row_of_pattern}
use Rattle.openrdson_core.specs.declared.blocks.Cell.TheVariants.{Number, Name}
use Rattle.openrdson_core.proofs.LayoutLaws.{layer_below}
use Rattle.openrdson_core.specs.Tech.{Blocks}
use Rattle.geometry.specs.Plans.{Plan, with_name, plan_of, row_plan}
use Rattle.geometry.specs.Table.{plan_of_row, layer_plan}
use Rattle.geometry.specs.declared.plans.Skip.TheVariants.{Unnamed}

module _ (b : Blocks) (plans : List Plan) where
  abbrev filled : List Plan
  filled = put plans 0 (elems (count b.names) (row_plan b))

  by_row : (bits : ℕ) (o : Option ℕ) → o ≡ row_of_pattern b.names bits → plan_of_row filled o ≡ with_name b (option_map unpad (option_map (value_at Number Name b.names) o))
  by_row bits None e = refl
  by_row bits (Some i) e = put_at plans (row_plan b) (Err Unnamed) (count b.names) i (layer_below b.names bits i e)

  pub layer_plan_lem : (layer : ℤ) → layer_plan b.names filled layer ≡ plan_of b layer
  unfolding layer_plan plan_of
  layer_plan_lem layer = by_row (pattern_of layer) (row_of_pattern b.names (pattern_of layer)) refl
