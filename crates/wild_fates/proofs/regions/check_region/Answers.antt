use Rattle.wild_fates.proofs.Ends.{wanted_origin, wanted_length, wanted_end, no_fault, region_is}
use Rattle.wild_fates.proofs.Failing.{exits}
use Rattle.wild_fates.proofs.regions.check_region.Goals as goal

pub returns-in_err-origin-clause-passes : goal.returns-in_err-origin-clause-passes
returns-in_err-origin-clause-passes c =
    exits _ _ c.from_residual.ensures.1 (wanted_origin c.args.statement c.args.region.now _ c.in_err-origin.ensures)

pub returns-in_err-length-clause-passes : goal.returns-in_err-length-clause-passes
returns-in_err-length-clause-passes c =
    exits _ _ c.from_residual-in_err-length.ensures.1 (wanted_length c.args.statement c.args.region.now c.in_ok-origin.origin c.in_ok-origin.ensures _ c.in_err-length.ensures)

pub returns-in_err-sum-clause-passes : goal.returns-in_err-sum-clause-passes
returns-in_err-sum-clause-passes c =
    exits _ _ c.from_residual-in_err-sum.ensures.1 (wanted_end c.args.statement c.args.region.now c.in_ok-origin.origin c.in_ok-origin.ensures c.in_ok-length.length c.in_ok-length.ensures _ c.in_err-sum.ensures)

pub returns-clause-passes : goal.returns-clause-passes
returns-clause-passes c =
    record { ok = no_fault c.args.statement c.args.region.now c.in_ok-origin.origin c.in_ok-origin.ensures c.in_ok-length.length c.in_ok-length.ensures _ c.in_ok-sum.ensures; err = tt }

pub returns-clause-region : goal.returns-clause-region
returns-clause-region c = region_is c.args.statement c.args.region.now c.in_ok-origin.origin c.in_ok-origin.ensures c.in_ok-length.length c.in_ok-length.ensures
