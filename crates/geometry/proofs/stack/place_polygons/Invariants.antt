use Rattle.std.proofs.Common.{ℕ, ◌≡◌}
use Rattle.lists.proofs.Fills.{Elems}
use Rattle.geometry.specs.Regions.{held_regions, SameRegions, put_regions}
use Rattle.geometry.specs.Polygons.{polygons_of, layer_at}
use Rattle.geometry.specs.Table.{layer_plan}
use Rattle.geometry.specs.Stack.{outcome_at, regions_to, rows_to}
use Rattle.geometry.proofs.stack.place_polygons.Given as goal

abbrev pub invariant-loop-i : goal.invariant-loop-i
invariant-loop-i l =
    let p = polygons_of l.polygons.lists in
    let plan = λ (j : ℕ). layer_plan l.names.bytes.now l.plans (layer_at p j) in
    record {
      placed : held_regions l.regions ≡ put_regions (held_regions l.initial.regions) 0 (regions_to p plan l.i);
      told : Elems l.initial.outcomes 0 (λ (j : ℕ). outcome_at p j (plan j)) l.i l.outcomes;
      counted : l.k ≡ rows_to plan l.i;
      same : SameRegions l.initial.regions l.regions;
    }
