use Rattle.std.proofs.Common.{◌≡◌, ◌+◌, ◌++◌, drop, arith}
use Rattle.std.proofs.lemmas.Grind.{common_steps}
use Rattle.wild_plan_spec.specs.Checks.{all_region_checks, region_checks, failing}
use Rattle.wild_fates.proofs.Failing.{wanted_here, exits}
use Rattle.wild_fates.proofs.regions.check_regions.Goals as goal

pub returns-in_err-check_region-clause-passes : goal.returns-in_err-check_region-clause-passes
returns-in_err-check_region-clause-passes c =
    let n = c.args.memory.now.place in
    let regions = c.args.memory.now.regions.now in
    let here = region_checks n c.region-item.result in
    let rest = all_region_checks n (drop (c.loop-region.region-index + 1) regions) in
    let same : failing (here ++ rest) ≡ failing (all_region_checks n regions) = grind (arith, common_steps) in
    exits _ _ c.from_residual.ensures.1 (wanted_here here rest (all_region_checks n regions) _ same c.in_err-check_region.ensures.passes.err)
