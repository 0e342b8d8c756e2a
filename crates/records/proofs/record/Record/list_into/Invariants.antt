use Rattle.std.proofs.Common.{◌≡◌, map}
use Rattle.std.specs.List.{range_with_len}
use Rattle.arrayvec.specs.ArrayVec.{array_vec_len}
use Rattle.records.specs.Words as spec
use Rattle.records.proofs.record.Record.list_into.Given as goal

abbrev pub invariant-loop-k : goal.invariant-loop-k
invariant-loop-k g l = (array_vec_len l.list ≡ l.k) × (l.list.items ≡ map (λ j. g.T.Entry.of_word (spec.word l.rest.0.now j)) (range_with_len 0 l.k))
