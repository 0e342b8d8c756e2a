use Rattle.std.proofs.Common.{◌≡◌, ◌+◌, ◌<◌, true}
use Rattle.lists.specs.Lists.{all_below}
use Rattle.binary64.specs.Numbers.{at, at_most}
use Rattle.openrdson_core.proofs.area.largest_half.Given as goal

abbrev pub invariant-loop-k : goal.invariant-loop-k
invariant-loop-k l = l.most < 0x4130_0000 → (l.start < 0x4130_0000) × (all_below l.k (λ k. at_most 20 (at l.list (l.from + k))) ≡ true)
