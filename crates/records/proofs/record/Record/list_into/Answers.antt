use Rattle.std.proofs.Common.{rules, arith}
use Rattle.std.proofs.lemmas.List.FromFn.{map-range_with_len_more}
use Rattle.records.specs.Words as spec
use Rattle.records.proofs.record.Record.list_into.Goals as goal

pub loop-k-preserved : goal.loop-k-preserved
loop-k-preserved g c =
    let l = c.loop-k in
    let next = map-range_with_len_more (λ j. g.T.Entry.of_word (spec.word c.after-rest.result.0.now j)) 0 l.k l.k (omega arith) in
    search rules
