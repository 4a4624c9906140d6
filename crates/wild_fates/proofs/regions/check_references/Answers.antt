use Rattle.std.proofs.Common.{◌≡◌, ◌+◌, ◌++◌, drop, arith}
use Rattle.std.proofs.lemmas.Grind.{common_steps}
use Rattle.wild_plan_spec.specs.Checks.{header_name_checks, reference_checks, region_check, failing}
use Rattle.wild_fates.specs.Targets.{targets}
use Rattle.wild_fates.proofs.Failing.{wanted_here, exits}
use Rattle.wild_fates.proofs.regions.check_references.Goals as goal

pub returns-in_err-check_section : goal.returns-in_err-check_section
returns-in_err-check_section c =
    let regions = c.args.regions.now in
    let headers = c.args.headers.now in
    let section = c.section-item.result.now in
    let here = region_check regions section.region ++ header_name_checks headers section.phdrs in
    let rest = reference_checks regions headers (targets (drop (c.loop-section.section-index + 1) c.args.sections.now)) in
    let all = reference_checks regions headers (targets c.args.sections.now) in
    let same : failing (here ++ rest) ≡ failing all = grind (arith, common_steps) in
    exits _ _ c.from_residual.ensures.1 (wanted_here here rest all _ same c.in_err-check_section.ensures.err)
