use Rattle.std.proofs.Common.{◌≡◌, ◌++◌, drop}
use Rattle.wild_segments.specs.Holding.{held_from}
use Rattle.wild_segments.proofs.by_header.held_sections.Given as goal

abbrev pub invariant-loop-number : goal.invariant-loop-number
invariant-loop-number l = l.held ++ held_from l.name l.number (drop l.number l.members) ≡ held_from l.name 0 l.members
