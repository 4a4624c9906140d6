-- the sizes of the trees
use Rattle.std.proofs.Common.{◌+◌, ◌*◌, max}
use Rattle.wild_expression_tree.specs.declared.tree.Expression.{size-Expression}
use Rattle.wild_plan.proofs.asking.+asking.Given as goal

abbrev pub decreases-any_asks : goal.decreases-any_asks
decreases-any_asks l = 2 * max (size-Expression l.first.now) (size-Expression l.second.now) + 1

abbrev pub decreases-asks_segment : goal.decreases-asks_segment
decreases-asks_segment l = 2 * size-Expression l.expression.now
