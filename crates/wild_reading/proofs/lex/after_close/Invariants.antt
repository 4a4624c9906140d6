-- no comment ends before here
use Rattle.std.proofs.Common.{length, ◌-◌, ◌≡◌, ◌≤◌}
use Rattle.wild_reading.specs.Lex.{after_close}
use Rattle.wild_reading.proofs.lex.after_close.Given as goal

abbrev pub invariant-loop-end : goal.invariant-loop-end
invariant-loop-end l = record {
  same : after_close l.bytes l.fn.at ≡ after_close l.bytes l.end;
  forward : l.fn.at ≤ l.end;
  within : l.end ≤ length l.bytes;
}

abbrev pub decreases-loop-end : goal.decreases-loop-end
decreases-loop-end l = length l.bytes - l.end
