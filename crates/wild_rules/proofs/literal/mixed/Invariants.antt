use Rattle.std.proofs.Common.{◌≡◌, drop}
use Rattle.wild_rules.specs.Index.{mixed}
use Rattle.wild_rules.proofs.literal.mixed.Given as goal

abbrev pub invariant-loop-byte : goal.invariant-loop-byte
invariant-loop-byte l = mixed l.number (drop l.byte-index l.bytes) ≡ mixed 0 l.bytes
