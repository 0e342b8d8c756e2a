use Rattle.std.proofs.Common.{◌≤◌, ◌+◌, ◌-◌, ◌*◌, ◌≡◌}
use Rattle.records.specs.Words.{sum_of}
use Rattle.records.proofs.record.Record.sum.Given as goal

abbrev pub invariant-loop-i : goal.invariant-loop-i
invariant-loop-i l = let places = l.fn.places in
    (l.sum + l.most * (places.end - l.i) ≤ l.most * (places.end - places.start)) × (l.sum ≡ sum_of l.most l.self.0.now places.start (l.i - places.start))
