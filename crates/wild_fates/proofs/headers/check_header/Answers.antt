use Rattle.std.proofs.Common.{Some}
use Rattle.wild_plan_spec.specs.Checks.{header_number_checks}
use Rattle.wild_fates.proofs.Failing.{wanted_before, wanted_after, none_after, exits}
use Rattle.wild_fates.proofs.headers.check_header.Goals as goal

pub returns-in_err-ptype-clause-passes : goal.returns-in_err-ptype-clause-passes
returns-in_err-ptype-clause-passes c =
    let of_type = header_number_checks c.args.statement c.args.index (Some c.args.header.now.ptype) in
    let of_flags = header_number_checks c.args.statement c.args.index c.args.header.now.flags in
    exits _ _ c.from_residual.ensures.1 (wanted_before of_type of_flags _ c.in_err-ptype.ensures.passes.err)

pub returns-in_err-flags-clause-passes : goal.returns-in_err-flags-clause-passes
returns-in_err-flags-clause-passes c =
    let of_type = header_number_checks c.args.statement c.args.index (Some c.args.header.now.ptype) in
    let of_flags = header_number_checks c.args.statement c.args.index c.args.header.now.flags in
    exits _ _ c.from_residual-in_err-flags.ensures.1 (wanted_after of_type of_flags _ c.in_ok-ptype.ensures.passes.ok c.in_err-flags.ensures.passes.err)

pub returns-clause-passes : goal.returns-clause-passes
returns-clause-passes c =
    let of_type = header_number_checks c.args.statement c.args.index (Some c.args.header.now.ptype) in
    let of_flags = header_number_checks c.args.statement c.args.index c.args.header.now.flags in
    record { ok = none_after of_type of_flags c.in_ok-ptype.ensures.passes.ok c.in_ok-flags.ensures.passes.ok; err = tt }
