use Rattle.std.proofs.Common.{◌≡◌, ◌+◌, ◌++◌, ◌||◌, drop, arith}
use Rattle.std.specs.List.{list_any}
use Rattle.std.proofs.lemmas.Grind.{common_steps}
use Rattle.wild_names.specs.declared.fault.Fault.TheVariants.{UnknownPhdr}
use Rattle.wild_numbering.specs.Numbering.{is_named}
use Rattle.wild_plan_spec.specs.Checks.{check, header_name_checks, is_none_name, failing}
use Rattle.wild_fates.proofs.Failing.{wanted_here, exits}
use Rattle.wild_fates.proofs.headers.check_header_names.Goals as goal

pub returns-in_err-check_header_name : goal.returns-in_err-check_header_name
returns-in_err-check_header_name c =
    let names = c.args.names.now in
    let name = c.name-item.result in
    let here = check (is_none_name name || list_any (is_named name) names) (UnknownPhdr name) in
    let rest = header_name_checks names (drop (c.loop-name.name-index + 1) c.args.named.now) in
    let all = header_name_checks names c.args.named.now in
    let same : failing (here ++ rest) ≡ failing all = grind (arith, common_steps) in
    exits _ _ c.from_residual.ensures.1 (wanted_here here rest all _ same c.in_err-check_header_name.ensures.err)
