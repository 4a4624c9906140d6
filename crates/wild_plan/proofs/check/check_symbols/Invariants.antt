use Rattle.std.proofs.Common.{◌≡◌, drop}
use Rattle.wild_plan_spec.specs.Checks.{symbol_checks, failing}
use Rattle.wild_plan.proofs.check.check_symbols.Given as goal

abbrev pub invariant-loop-number : goal.invariant-loop-number
invariant-loop-number l = failing (symbol_checks l.rows l.number (drop l.number l.symbols)) ≡ failing (symbol_checks l.rows 0 l.symbols)
