use Rattle.std.proofs.Common.{◌≡◌, ◌+◌, ◌++◌, drop, arith}
use Rattle.std.proofs.lemmas.Grind.{common_steps}
use Rattle.wild_plan_spec.specs.Checks.{all_header_checks, header_checks, failing}
use Rattle.wild_fates.proofs.Failing.{wanted_here, exits}
use Rattle.wild_fates.proofs.headers.check_headers.Goals as goal

pub returns-in_err-check_header-clause-passes : goal.returns-in_err-check_header-clause-passes
returns-in_err-check_header-clause-passes c =
    let n = c.args.list.now.place in
    let headers = c.args.list.now.headers.now in
    let i = c.loop-index.index in
    let here = header_checks n i c.index-all-index.result in
    let rest = all_header_checks n (i + 1) (drop (i + 1) headers) in
    let same : failing (here ++ rest) ≡ failing (all_header_checks n 0 headers) = grind (arith, common_steps) in
    exits _ _ c.from_residual.ensures.1 (wanted_here here rest (all_header_checks n 0 headers) _ same c.in_err-check_header.ensures.passes.err)
