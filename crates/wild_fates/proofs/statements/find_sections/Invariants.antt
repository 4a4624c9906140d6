use Rattle.std.proofs.Common.{◌≡◌, ◌++◌, drop}
use Rattle.wild_plan_spec.specs.Statements.{statement_sections}
use Rattle.wild_fates.specs.Targets.{targets}
use Rattle.wild_fates.specs.Shown.{shown_statements}
use Rattle.wild_fates.proofs.statements.find_sections.Given as goal

abbrev pub invariant-loop-statement : goal.invariant-loop-statement
invariant-loop-statement l = targets l.sections ++ statement_sections (shown_statements (drop l.statement-index l.statements)) ≡ statement_sections (shown_statements l.statements)
