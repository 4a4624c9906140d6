use Rattle.std.proofs.Common.{◌≡◌, take}
use Rattle.wild_script_tree.proofs.+copies.Given as goal

abbrev pub invariant-copy::copy_commands-loop-command :
    goal.invariant-copy::copy_commands-loop-command
invariant-copy::copy_commands-loop-command l = l.copies ≡ take l.command-index l.commands
