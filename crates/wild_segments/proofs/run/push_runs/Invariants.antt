use Rattle.std.proofs.Common.{◌≡◌, ◌≤◌, ◌++◌, drop, length}
use Rattle.std.specs.Option.{option_copied}
use Rattle.wild_segments.specs.Runs.{runs_at}
use Rattle.wild_segments.proofs.run.push_runs.Given as goal

abbrev pub invariant-loop-kind : goal.invariant-loop-kind
invariant-loop-kind l =
    record {
      all : l.segments ++ runs_at (drop l.kind-index l.kinds) (option_copied l.before) l.number (drop l.number l.members) ≡ l.initial.segments ++ runs_at l.kinds (option_copied l.before) l.number (drop l.number l.members);
      room : length l.initial.segments ≤ 256 → length l.segments ≤ 256;
    }
