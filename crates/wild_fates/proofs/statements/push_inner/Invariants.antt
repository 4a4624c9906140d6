use Rattle.std.proofs.Common.{◌≡◌, ◌++◌, drop}
use Rattle.wild_plan_spec.specs.Statements.{inner_statements}
use Rattle.wild_fates.specs.Shown.{shown_statements}
use Rattle.wild_fates.proofs.statements.push_inner.Given as goal

abbrev pub invariant-loop-command : goal.invariant-loop-command
invariant-loop-command l = shown_statements l.statements ++ inner_statements (drop l.command-index l.commands) ≡ shown_statements l.fn.statements ++ inner_statements l.commands
