use Rattle.std.proofs.Common.{◌≡◌, drop, length}
use Rattle.wild_script_tree.specs.Equality.{same_commands}
use Rattle.wild_script_tree.proofs.equality.+equality.Given as goal

-- all is the same where what is from here on is
abbrev pub invariant-same_commands-loop-i : goal.invariant-same_commands-loop-i
invariant-same_commands-loop-i l = record { lengths : length l.left ≡ length l.right; rest : same_commands l.left l.right ≡ same_commands (drop l.i l.left) (drop l.i l.right) }
