use Rattle.std.proofs.Common.{◌≡◌, ◌+◌, ◌*◌, ◌^◌, ◌<◌}
use Rattle.binary64.proofs.root.root_and_rest.Given as goal

abbrev pub invariant-loop-root : goal.invariant-loop-root
invariant-loop-root l = l.root < 2 ^ 32

abbrev pub decreases-loop-root : goal.decreases-loop-root
decreases-loop-root l = l.root

abbrev pub invariant-loop-root-2 : goal.invariant-loop-root-2
invariant-loop-root-2 l = l.root * l.root + l.rest ≡ l.n

abbrev pub decreases-loop-root-2 : goal.decreases-loop-root-2
decreases-loop-root-2 l = l.rest
