-- the size of the left one
use Rattle.std.proofs.Common.{◌+◌, ◌*◌}
use Rattle.wild_expression_tree.specs.Shape.{seen_held, size_held}
use Rattle.wild_expression_tree.specs.declared.tree.Expression.{size-Expression}
use Rattle.wild_expression_tree.proofs.equality.+equality.Given as goal

abbrev pub decreases-same : goal.decreases-same
decreases-same l = 2 * size-Expression l.left.now

abbrev pub decreases-same_operand : goal.decreases-same_operand
decreases-same_operand l = 2 * size_held (seen_held l.left) + 1
