use Rattle.std.proofs.Common.{◌≡◌, drop, false}
use Rattle.wild_glob.specs.Escape.{escapes_next}
use Rattle.wild_glob.proofs.escape.ends_in_backslash.Given as goal

abbrev pub invariant-loop-byte : goal.invariant-loop-byte
invariant-loop-byte l = escapes_next l.escaped (drop l.byte-index l.pattern) ≡ escapes_next false l.pattern
