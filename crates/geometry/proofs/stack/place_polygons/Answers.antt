-- The rows and outcomes so far are those of the polygons so far.
use Rattle.std.proofs.Common.{ℕ, refl, ◌≡◌, ◌∙◌, sym, ap, arith, rules, zero-add, length}
use Rattle.lists.proofs.Fills.{no_elems, one_elem}
use Rattle.geometry.specs.Regions.{held_regions}
use Rattle.geometry.specs.Polygons.{Polygons, polygons_of, layer_at}
use Rattle.geometry.specs.Plans.{Plan}
use Rattle.geometry.specs.Table.{layer_plan}
use Rattle.geometry.specs.Stack.{rows_of, outcome_at}
use Rattle.geometry.proofs.StackLaws.{rows_none, rows_step, none_placed, place_room, placed_long, placed_even, placed_more}
use Rattle.geometry.proofs.stack.place_polygons.Goals as goal

pub place_polygon-placed-requires-clause-even : goal.place_polygon-placed-requires-clause-even
place_polygon-placed-requires-clause-even c =
    let p : Polygons = polygons_of c.args.polygons.lists in
    let plan : ℕ → Plan = λ j. layer_plan c.args.names.bytes.now c.args.plans.now (layer_at p j) in
    placed_even p plan (length p.layers) (held_regions c.args.regions.now) c.requires.even c.requires.room c.loop-i.i (held_regions c.loop-i.regions) c.loop-i-test.true c.loop-i.invariant.placed

pub loop-i-init : goal.loop-i-init
loop-i-init c =
    let p : Polygons = polygons_of c.args.polygons.lists in
    let plan : ℕ → Plan = λ j. layer_plan c.args.names.bytes.now c.args.plans.now (layer_at p j) in
    record {
      placed = none_placed p plan (length p.layers) (held_regions c.args.regions.now) c.requires.even c.requires.room;
      told = no_elems _ _ _;
      counted = rows_none plan;
      same = record { kinds = refl; min_x = refl; min_y = refl; max_x = refl; max_y = refl; z_bottom = refl; z_top = refl; starts = refl; counts = refl; materials = refl; nets = refl; polygons = refl };
    }

pub place_polygon-placed-requires-clause-room : goal.place_polygon-placed-requires-clause-room
place_polygon-placed-requires-clause-room c =
    let p : Polygons = polygons_of c.args.polygons.lists in
    let plan : ℕ → Plan = λ j. layer_plan c.args.names.bytes.now c.args.plans.now (layer_at p j) in
    let is : c.plan_of_layer-plan.result ≡ plan c.loop-i.i = search rules in
    let there = place_room p plan (length p.layers) (held_regions c.args.regions.now) c.requires.even c.requires.room c.loop-i.i c.loop-i.k c.loop-i-test.true c.loop-i.invariant.counted in
    omega (arith, there, ap rows_of is, placed_long p plan (length p.layers) (held_regions c.args.regions.now) c.requires.even c.requires.room c.loop-i.i (held_regions c.loop-i.regions) c.loop-i-test.true c.loop-i.invariant.placed)

pub loop-i-preserved : goal.loop-i-preserved
loop-i-preserved c =
    let p : Polygons = polygons_of c.args.polygons.lists in
    let plan : ℕ → Plan = λ j. layer_plan c.args.names.bytes.now c.args.plans.now (layer_at p j) in
    let is : c.plan_of_layer-plan.result ≡ plan c.loop-i.i = search rules in
    record {
      placed =
          placed_more p plan (length p.layers) (held_regions c.args.regions.now) c.requires.even c.requires.room
          c.loop-i.i c.loop-i.k (held_regions c.loop-i.regions) _ c.plan_of_layer-plan.result
          c.loop-i-test.true c.loop-i.invariant.counted c.loop-i.invariant.placed c.place_polygon-placed.ensures.rows is;
      told =
          one_elem c.loop-i.invariant.told (sym (zero-add c.loop-i.i)) (omega (arith, c.loop-i-test.true, c.requires.outcomes))
          (c.outcome_of.ensures ∙ c.place_polygon-placed.ensures.outcome ∙ ap (outcome_at p c.loop-i.i) is);
      counted = rows_step plan c.loop-i.i c.plan_of_layer-plan.result c.loop-i.invariant.counted c.rows_of-k.ensures is;
      same = search rules;
    }
