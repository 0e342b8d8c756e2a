use Rattle.std.proofs.Common.{◌≡◌, ◌-◌, ◌*◌, ◌^◌, ◌<◌, ◌≤◌}
use Rattle.binary64.proofs.root.normalised.Given as goal

abbrev pub invariant-loop-m : goal.invariant-loop-m
invariant-loop-m l = (l.m * 2 ^ l.e ≡ l.m0 * 2 ^ l.e0) × (l.m < 2 ^ 53) × (0 < l.m) × (l.e ≤ l.e0)

abbrev pub decreases-loop-m : goal.decreases-loop-m
decreases-loop-m l = 2 ^ 52 - l.m
