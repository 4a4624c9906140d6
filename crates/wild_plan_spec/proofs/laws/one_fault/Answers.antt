use Rattle.wild_plan_spec.proofs.Unique.{faults_once}
use Rattle.wild_plan_spec.proofs.laws.one_fault.Goals as goal

pub returns : goal.returns
returns c = faults_once
