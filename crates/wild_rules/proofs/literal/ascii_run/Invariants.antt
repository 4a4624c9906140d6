use Rattle.std.proofs.Common.{◌≡◌, ◌++◌, ◌-◌, length, drop}
use Rattle.wild_rules.specs.Index.{ascii_run}
use Rattle.wild_rules.proofs.literal.ascii_run.Given as goal

abbrev pub invariant-loop-byte : goal.invariant-loop-byte
invariant-loop-byte l = l.bytes.items ++ ascii_run (drop (length l.bytes.items) l.pattern) ≡ ascii_run l.pattern

abbrev pub decreases-loop-byte : goal.decreases-loop-byte
decreases-loop-byte l = length l.pattern - length l.bytes.items
