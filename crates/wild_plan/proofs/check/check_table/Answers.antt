use Rattle.wild_fates.proofs.Failing.{exits, failing_after, wanted_before}
use Rattle.wild_plan_spec.specs.Checks.{row_checks, symbol_checks}
use Rattle.wild_plan.proofs.check.check_table.Goals as goal

pub returns-in_err-check_rows : goal.returns-in_err-check_rows
returns-in_err-check_rows c =
    let inputs = c.args.inputs.now in
    let rows = rw c.as_slice-rows.ensures at c.in_err-check_rows.ensures.err in
    exits _ c.from_residual.result c.from_residual.ensures.1 (wanted_before (row_checks 0 inputs.rows) (symbol_checks inputs.rows 0 inputs.symbols) _ rows)

pub returns : goal.returns
returns c =
    let inputs = c.args.inputs.now in
    let rows = rw c.as_slice-rows.ensures at c.in_ok-check_rows.ensures.ok in
    let symbols = rw (c.as_slice-rows.ensures, c.as_slice.ensures) at c.check_symbols.ensures in
    rw (failing_after (row_checks 0 inputs.rows) (symbol_checks inputs.rows 0 inputs.symbols) rows) symbols
