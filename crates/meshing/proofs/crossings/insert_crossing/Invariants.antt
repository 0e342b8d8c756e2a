use Rattle.std.proofs.Common.{◌≡◌, get_or}
use Rattle.lists.specs.Sorts.{slot}
use Rattle.lists.proofs.Sorts.{shifted}
use Rattle.binary64.specs.Numbers.{at as entry}
use Rattle.meshing.specs.Crossings.{goes_before}
use Rattle.meshing.proofs.crossings.insert_crossing.Given as goal

abbrev pub invariant-loop-k : goal.invariant-loop-k
invariant-loop-k l = (l.edges ≡ shifted l.initial.edges l.m l.k) × (l.at ≡ shifted l.initial.at l.m l.k)
    × (slot (λ k. goes_before l.x l.e (entry l.initial.at k) (get_or l.initial.edges k 0)) l.m ≡ slot (λ k. goes_before l.x l.e (entry l.initial.at k) (get_or l.initial.edges k 0)) l.k)
