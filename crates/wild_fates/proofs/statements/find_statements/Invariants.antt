use Rattle.std.proofs.Common.{◌≡◌, ◌++◌, drop}
use Rattle.wild_plan_spec.specs.Statements.{statements_of}
use Rattle.wild_fates.specs.Shown.{shown_statements}
use Rattle.wild_fates.proofs.statements.find_statements.Given as goal

abbrev pub invariant-loop-command : goal.invariant-loop-command
invariant-loop-command l = shown_statements l.statements ++ statements_of (drop l.command-index l.commands) ≡ statements_of l.commands
