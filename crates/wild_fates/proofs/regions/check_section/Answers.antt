use Rattle.wild_plan_spec.specs.Checks.{region_check, header_name_checks}
use Rattle.wild_fates.proofs.Failing.{wanted_before, exits}
use Rattle.wild_fates.proofs.regions.check_section.Goals as goal

pub returns-in_err-check_reference : goal.returns-in_err-check_reference
returns-in_err-check_reference c =
    let section = c.args.section.now in
    exits _ _ c.from_residual.ensures.1 (wanted_before (region_check c.args.regions.now section.region) (header_name_checks c.args.headers.now section.phdrs) _ c.in_err-check_reference.ensures.err)
