-- `count_kept` meets its contract: the nodes that pass are the ones kept. Assumes nothing.
use Rattle.std.proofs.Common.{◌∙◌, ap, length, arith, rules, tests}
use Rattle.std.proofs.lemmas.Iterator.{YieldsList-from_range}
use Rattle.std.proofs.lemmas.Iterator.Consumers.{YieldsList-from_filter, count_from_yields_List}
use Rattle.meshing.specs.Welds.{is_first}
use Rattle.meshing.proofs.WeldLaws.{filter_range}
use Rattle.meshing.proofs.weld.Keyed.count_kept.Goals as goal

pub returns : goal.returns
returns c = let n = c.args.self.nodes in
    let test = is_first c.args.self.tolerance n.xs.now n.ys.now n.zs.now in
    count_from_yields_List c.filter.result _ c.count.ensures.ran (YieldsList-from_filter _ test (YieldsList-from_range 0 (length n.xs.now) (length n.xs.now) c.filter.ensures.source (omega arith)) c.filter.ensures.closure (λ x r q k. search (rules, tests)))
    ∙ ap length (filter_range test (length n.xs.now))
