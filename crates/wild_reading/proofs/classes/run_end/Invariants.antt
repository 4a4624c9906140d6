-- the run from here ends where the run from the beginning does
use Rattle.std.proofs.Common.{length, ◌-◌, ◌≡◌, ◌≤◌}
use Rattle.wild_reading.specs.Bytes.{run_end}
use Rattle.wild_reading.proofs.classes.run_end.Given as goal

abbrev pub invariant-loop-end : goal.invariant-loop-end
invariant-loop-end l = record {
  same : run_end l.class l.bytes l.fn.at ≡ run_end l.class l.bytes l.end;
  forward : l.fn.at ≤ l.end;
  within : l.end ≤ length l.bytes;
}

abbrev pub decreases-loop-end : goal.decreases-loop-end
decreases-loop-end l = length l.bytes - l.end
