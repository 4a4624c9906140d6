use Rattle.wild_expression.proofs.ChainLists.{lists}
use Rattle.wild_expression.proofs.laws.chains_are_lists.Goals as goal

pub returns : goal.returns
returns c = lists
