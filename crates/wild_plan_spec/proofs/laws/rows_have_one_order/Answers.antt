use Rattle.wild_plan_spec.proofs.RowOrder.{rows_once}
use Rattle.wild_plan_spec.proofs.laws.rows_have_one_order.Goals as goal

pub returns : goal.returns
returns c = rows_once
