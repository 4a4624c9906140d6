-- the size of the tree, or of the highest side
use Rattle.std.proofs.Common.{◌+◌, ◌*◌, max}
use Rattle.wild_expression_tree.specs.declared.tree.Expression.{size-Expression}
use Rattle.wild_eval.proofs.constant.+constants.Given as goal

abbrev pub decreases-evaluate_const : goal.decreases-evaluate_const
decreases-evaluate_const l = 2 * size-Expression l.e.now

abbrev pub decreases-arithmetic_value : goal.decreases-arithmetic_value
decreases-arithmetic_value l = 2 * max (size-Expression l.a.now) (size-Expression l.b.now) + 1

abbrev pub decreases-division_value : goal.decreases-division_value
decreases-division_value l = 2 * max (size-Expression l.a.now) (size-Expression l.b.now) + 1

abbrev pub decreases-comparison_value : goal.decreases-comparison_value
decreases-comparison_value l = 2 * max (size-Expression l.a.now) (size-Expression l.b.now) + 1

abbrev pub decreases-connective_value : goal.decreases-connective_value
decreases-connective_value l = 2 * max (size-Expression l.a.now) (size-Expression l.b.now) + 1

abbrev pub decreases-unary_value : goal.decreases-unary_value
decreases-unary_value l = 2 * size-Expression l.a.now + 1

abbrev pub decreases-ternary_value : goal.decreases-ternary_value
decreases-ternary_value l = 2 * max (size-Expression l.condition.now) (max (size-Expression l.a.now) (size-Expression l.b.now)) + 1
