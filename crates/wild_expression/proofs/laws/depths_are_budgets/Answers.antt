use Rattle.wild_expression.proofs.Depths.{budgets}
use Rattle.wild_expression.proofs.laws.depths_are_budgets.Goals as goal

pub returns : goal.returns
returns c = budgets
