use Rattle.std.proofs.Common.{◌≡◌, drop}
use Rattle.wild_table.specs.Flags.{with_letters, flags_of}
use Rattle.wild_table.proofs.flags.read_flags.Given as goal

-- the flags so far and the letters that are left come to those of all letters
abbrev pub invariant-loop-letter : goal.invariant-loop-letter
invariant-loop-letter l = with_letters l.flags (drop l.letter-index l.letters) ≡ flags_of l.letters
