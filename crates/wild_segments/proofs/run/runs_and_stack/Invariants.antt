use Rattle.std.proofs.Common.{◌≡◌, ◌≤◌, ◌++◌, None, drop, length}
use Rattle.std.specs.Option.{option_copied}
use Rattle.wild_segments.specs.Runs.{runs}
use Rattle.wild_segments.proofs.run.runs_and_stack.Given as goal

abbrev pub invariant-loop-number : goal.invariant-loop-number
invariant-loop-number l =
    record {
      all : l.segments ++ runs (option_copied l.before) l.number (drop l.number l.members) ≡ runs None 0 l.members;
      room : length l.segments ≤ 256;
    }
