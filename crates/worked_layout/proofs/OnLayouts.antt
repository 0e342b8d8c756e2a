-- What is unfolded to compute a contract on a small layout.
use Rattle.std.specs.Prelude.{⊤}
use Rattle.lists.specs.Answer.{fold_answer}
use Rattle.lists.specs.Lists.{put, runs, elems}
use Rattle.worked.proofs.OnShapes.{on_shapes, on_names}
use Rattle.geometry.specs.Regions.{even_regions}
use Rattle.geometry.specs.Extrude.{solid_of}
use Rattle.geometry.specs.Polygons.{even_polygons, part_fault, part_solid}
use Rattle.geometry.specs.Ranges.{diffusion_range, layer_range, stack_range}
use Rattle.geometry.specs.Plans.{plan_of_physical, plan_of_name, plan_of}
use Rattle.geometry.specs.Stack.{regions_to, outcomes_to, fitted, stack_fault, assemble_stack}

unfoldable pub on_layouts : ⊤
unfolding on_shapes on_names fold_answer put runs elems even_regions solid_of even_polygons part_fault part_solid diffusion_range layer_range stack_range plan_of_physical plan_of_name plan_of regions_to outcomes_to fitted stack_fault assemble_stack
on_layouts = tt
