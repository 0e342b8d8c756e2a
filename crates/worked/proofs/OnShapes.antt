-- What is unfolded to compute a contract on a worked shape.
use Rattle.std.specs.Prelude.{⊤}
use lib.Ieee.{add, sub, mul, div, neg, lt, le, eq, ne, of_bits, round, size}
use Rattle.lists.specs.Lists.{fold_below, all_below, any_below, first}
use Rattle.binary64.specs.Numbers.{at_most, abs}
use Rattle.binary64.specs.Root.{sqrt_of, root_rounded, root, root_of, next_digit}
use Rattle.binary64.specs.Rounding.{ceil_capped, nearest_capped}
use Rattle.openrdson_core.specs.Points.{ring_fault}
use Rattle.openrdson_core.specs.Area.{shoelace, signed_area}
use Rattle.openrdson_core.specs.Bounds.{bounds_of}
use Rattle.openrdson_core.specs.Rectangle.{on_corner, on_some_corner, fills_corners, fills_bounds}
use Rattle.openrdson_core.specs.Solids.{footprint, volume}
use Rattle.openrdson_core.specs.Mesh.{kind_of, parallel_lengths, within_lengths, fits, rest_unused, first_below}
use Rattle.openrdson_core.specs.Bytes.{same, zeros, name_length, name_ok, little, starts_with, contains}
use Rattle.openrdson_core.specs.Blocks.{figures_ok, name_or_none, block_ok, row_of}
use Rattle.openrdson_core.specs.Maps.{lookup}
use Rattle.openrdson_core.specs.Layout.{row_of_pattern, layer_name, is_marker}
use Rattle.openrdson_core.specs.Tech.{figures_in, stack_in, stack_layer, via_layers, material_of, material_number, blocks_fault}

unfoldable pub on_numbers : ⊤
unfolding add sub mul div neg lt le eq ne of_bits round size at_most abs sqrt_of root_rounded root root_of next_digit ceil_capped nearest_capped
on_numbers = tt

unfoldable pub on_shapes : ⊤
unfolding on_numbers fold_below all_below any_below ring_fault shoelace signed_area bounds_of on_corner on_some_corner fills_corners fills_bounds footprint volume
on_shapes = tt

unfoldable pub on_meshes : ⊤
unfolding on_numbers all_below kind_of parallel_lengths within_lengths fits rest_unused first_below
on_meshes = tt

unfoldable pub on_names : ⊤
unfolding on_numbers all_below any_below first same zeros name_length name_ok little starts_with contains figures_ok name_or_none block_ok row_of lookup row_of_pattern layer_name is_marker figures_in stack_in stack_layer via_layers material_of material_number blocks_fault
on_names = tt
