-- The names of regions and headers, those that sections name, and those of sections, in their order.
use Rattle.wild_plan_spec.specs.Headers.{names_of_headers}
use Rattle.wild_plan_spec.specs.Regions.{names_in}
use Rattle.wild_fates.specs.Targets.{targets}
use Rattle.wild_fates.proofs.Failing.{exits}
use Rattle.wild_fates.proofs.InOrder.{region_names_fail, header_names_fail, references_fail, section_names_fail, names_hold}
use Rattle.wild_fates.proofs.script_fates.check_names.Goals as goal

pub returns-in_err-numbers-clause-passes : goal.returns-in_err-numbers-clause-passes
returns-in_err-numbers-clause-passes c =
    exits _ _ c.from_residual.ensures.1
    (region_names_fail (names_in c.args.regions.now) (names_of_headers c.args.headers.now) (targets c.args.sections.now) _ c.in_err-numbers.ensures.passes.err)

pub returns-in_err-header_numbers-clause-passes : goal.returns-in_err-header_numbers-clause-passes
returns-in_err-header_numbers-clause-passes c =
    exits _ _ c.from_residual-in_err-header_numbers.ensures.1
    (header_names_fail (names_in c.args.regions.now) (names_of_headers c.args.headers.now) (targets c.args.sections.now) c.in_ok-numbers.ensures.passes.ok _ c.in_err-header_numbers.ensures.passes.err)

pub returns-in_err-check_references-clause-passes : goal.returns-in_err-check_references-clause-passes
returns-in_err-check_references-clause-passes c =
    exits _ _ c.from_residual-in_err-check_references.ensures.1
    (references_fail (names_in c.args.regions.now) (names_of_headers c.args.headers.now) (targets c.args.sections.now) c.in_ok-numbers.ensures.passes.ok c.in_ok-header_numbers.ensures.passes.ok _
    (rw (c.in_ok-numbers.ensures.names, c.in_ok-header_numbers.ensures.names) at c.in_err-check_references.ensures.err))

pub returns-in_err-own-clause-passes : goal.returns-in_err-own-clause-passes
returns-in_err-own-clause-passes c =
    exits _ _ c.from_residual-in_err-own.ensures.1
    (section_names_fail (names_in c.args.regions.now) (names_of_headers c.args.headers.now) (targets c.args.sections.now) c.in_ok-numbers.ensures.passes.ok c.in_ok-header_numbers.ensures.passes.ok _
    (rw (c.in_ok-numbers.ensures.names, c.in_ok-header_numbers.ensures.names) at c.in_ok-check_references.ensures.ok) c.in_err-own.ensures.passes.err)

pub returns-clause-passes : goal.returns-clause-passes
returns-clause-passes c = record {
  ok = names_hold (names_in c.args.regions.now) (names_of_headers c.args.headers.now) (targets c.args.sections.now) c.in_ok-numbers.ensures.passes.ok c.in_ok-header_numbers.ensures.passes.ok
      (rw (c.in_ok-numbers.ensures.names, c.in_ok-header_numbers.ensures.names) at c.in_ok-check_references.ensures.ok) c.in_ok-own.ensures.passes.ok;
  err = tt;
}
