-- `count_rows` meets its contract: the layers whose plan gives a row are counted.
use Rattle.std.proofs.Common.{◌∙◌, rules, tests}
use Rattle.std.proofs.lemmas.Iterator.{YieldsList-from_slice}
use Rattle.std.proofs.lemmas.Iterator.Consumers.{YieldsList-from_filter, count_from_yields_List}
use Rattle.std.specs.Result.{is_ok}
use Rattle.geometry.specs.Table.{layer_plan}
use Rattle.geometry.proofs.StackLaws.{rows_listed}
use Rattle.geometry.proofs.stack.count_rows.Goals as goal

pub returns : goal.returns
returns c =
    let layers = c.args.polygons.lists.layers.now in
    let plan = layer_plan c.args.names.bytes.now c.args.plans.now in
    count_from_yields_List c.filter.result _ c.count.ensures.ran (YieldsList-from_filter _ (λ layer. is_ok (plan layer)) (YieldsList-from_slice layers cc) c.filter.ensures.closure (λ x r q k. search (rules, tests)))
    ∙ rows_listed plan layers
