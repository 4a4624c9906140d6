use Rattle.std.proofs.Common.{◌≡◌, drop, false}
use Rattle.wild_glob.proofs.Escapes.{has_from}
use Rattle.wild_glob.proofs.escape.has_unescaped.Given as goal

abbrev pub invariant-loop-byte : goal.invariant-loop-byte
invariant-loop-byte l = has_from l.wanted l.escaped (drop l.byte-index l.pattern) ≡ has_from l.wanted false l.pattern
