use Rattle.std.proofs.Common.{◌-◌, length}
use Rattle.wild_script.proofs.Braces.{IsOpen}
use Rattle.wild_script.proofs.version.closing_brace.Given as goal

abbrev pub invariant-braces : goal.invariant-braces
invariant-braces l = IsOpen l.bytes l.start l.at l.depth

abbrev pub decreases-braces : goal.decreases-braces
decreases-braces l = length l.bytes - l.at
