use Rattle.std.proofs.Common.{◌≡◌, ◌-◌, ◌≤◌, take, slice_range}
use Rattle.std.specs.Io.KnownBytes.{Consumes}
use Rattle.records.proofs.replay.read_on.Given as goal

abbrev pub invariant-loop-at : goal.invariant-loop-at
invariant-loop-at g l =
    record {
      low : l.from ≤ l.at;
      high : l.at ≤ l.to;
      before : take l.from l.buffer ≡ take l.from l.initial.buffer;
      bytes : Consumes (g.R.Read.remaining l.initial.input) (g.R.Read.remaining l.input) (slice_range l.buffer l.from l.at);
    }

abbrev pub decreases-loop-at : goal.decreases-loop-at
decreases-loop-at g l = l.to - l.at
