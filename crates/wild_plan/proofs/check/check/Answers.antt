-- The phases of the checks, in their order.
use Rattle.std.proofs.Common.{◌∙◌, ◌++◌, List, ap, sym}
use Rattle.std.proofs.lemmas.Result.{err_from_is_err_and}
use Rattle.wild_eval.specs.declared.definition.SymbolEntry.{SymbolEntry}
use Rattle.wild_fates.specs.Shown.{shown_places}
use Rattle.wild_plan_spec.specs.Definitions.{provided_entries}
use Rattle.wild_plan.specs.Case.{shown_case}
use Rattle.wild_plan.specs.Entries.{shown_entries}
use Rattle.wild_plan.proofs.Defined.{names_same, entries_complete, names_complete}
use Rattle.wild_plan.proofs.Phases.{table_fails, script_fails, names_fail}
use Rattle.wild_plan.proofs.check.check.Goals as goal

pub returns-in_err-check_table-clause-failing : goal.returns-in_err-check_table-clause-failing
returns-in_err-check_table-clause-failing c =
    let p = err_from_is_err_and c.from_residual.result c.from_residual.ensures.1 in
    rw (p.1, p.2) (table_fails (shown_case c.args.case.now) _ c.in_err-check_table.ensures.err)

pub returns-in_err-script_fates-clause-failing : goal.returns-in_err-script_fates-clause-failing
returns-in_err-script_fates-clause-failing c =
    let p = err_from_is_err_and c.from_residual-in_err-script_fates.result c.from_residual-in_err-script_fates.ensures.1 in
    let table = c.in_ok-check_table.ensures.ok in
    rw (p.1, p.2) (script_fails (shown_case c.args.case.now) table _ c.in_err-script_fates.ensures.passes.err)

pub returns-in_err-names-clause-failing : goal.returns-in_err-names-clause-failing
returns-in_err-names-clause-failing c =
    let p = err_from_is_err_and c.from_residual-in_err-names.result c.from_residual-in_err-names.ensures.1 in
    let case = shown_case c.args.case.now in
    let table = c.in_ok-check_table.ensures.ok in
    let script = c.in_ok-script_fates.ensures.passes.ok in
    let firm = ap shown_entries c.as_slice.ensures ∙ (rw (c.as_slice-fates.ensures, c.as_slice-symbols.ensures, c.as_slice-places.ensures) at c.in_ok-entries.ensures) in
    let names = rw (names_same case _ c.in_ok-script_fates.ensures.fates _ firm) at c.in_err-names.ensures.passes.err in
    rw (p.1, p.2) (names_fail case table script _ names)

pub returns-clause-sound : goal.returns-clause-sound
returns-clause-sound c =
    let case = shown_case c.args.case.now in
    let fates = c.in_ok-script_fates.ensures.fates in
    let table = c.in_ok-check_table.ensures.ok in
    let script = c.in_ok-script_fates.ensures.passes.ok in
    let firm = ap shown_entries c.as_slice.ensures ∙ (rw (c.as_slice-fates.ensures, c.as_slice-symbols.ensures, c.as_slice-places.ensures) at c.in_ok-entries.ensures) in
    let names = rw (names_same case _ fates _ firm) at c.in_ok-names.ensures.passes.ok in
    record {
      table = table;
      script = script;
      symbols = names;
      fates = fates;
      entries = entries_complete case _ fates _ firm _
          ((rw c.as_slice-places.ensures at c.in_ok-push_provided_entries.ensures.entries)
          ∙ ap (λ (old : List SymbolEntry). shown_entries old ++ provided_entries 0 (shown_places c.in_ok-script_fates.script_fates.places)) (sym c.as_slice.ensures));
      names = names_complete case _ fates _ firm _ _ c.in_ok-names.ensures.names (rw c.as_slice-places.ensures at c.in_ok-push_provided_entries.ensures.names);
    }
