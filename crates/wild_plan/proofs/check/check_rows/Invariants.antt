use Rattle.std.proofs.Common.{◌≡◌, drop}
use Rattle.wild_plan_spec.specs.Checks.{row_checks, failing}
use Rattle.wild_plan.proofs.check.check_rows.Given as goal

abbrev pub invariant-loop-number : goal.invariant-loop-number
invariant-loop-number l = failing (row_checks l.number (drop l.number l.rows)) ≡ failing (row_checks 0 l.rows)
