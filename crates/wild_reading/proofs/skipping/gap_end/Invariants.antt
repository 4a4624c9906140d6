-- the gap from the beginning ends as what is left of it here
use Rattle.std.proofs.Common.{length, ◌-◌, ◌≤◌, ◌≡◌}
use Rattle.wild_reading.specs.Lex.{rest_of_gap, gap_end}
use Rattle.wild_reading.proofs.skipping.gap_end.Given as goal

abbrev pub invariant-loop-at : goal.invariant-loop-at
invariant-loop-at l = record {
  same : gap_end l.bytes l.fn.position ≡ rest_of_gap l.bytes l.at;
  forward : l.fn.position ≤ l.at;
  within : l.at ≤ length l.bytes;
}

abbrev pub decreases-loop-at : goal.decreases-loop-at
decreases-loop-at l = length l.bytes - l.at
