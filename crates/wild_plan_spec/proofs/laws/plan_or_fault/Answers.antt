use Rattle.wild_plan_spec.proofs.Unique.{plan_or_fault}
use Rattle.wild_plan_spec.proofs.laws.plan_or_fault.Goals as goal

pub returns : goal.returns
returns c = plan_or_fault
