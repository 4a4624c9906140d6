use Rattle.std.proofs.Common.{◌≡◌, ◌++◌, drop}
use Rattle.wild_glob.specs.Escape.{without_escapes}
use Rattle.wild_glob.proofs.Escapes.{rest_of}
use Rattle.wild_glob.proofs.escape.unescape_pattern.Given as goal

abbrev pub invariant-loop-byte : goal.invariant-loop-byte
invariant-loop-byte l = l.bytes.items ++ rest_of l.escaped (drop l.byte-index l.pattern) ≡ without_escapes l.pattern
