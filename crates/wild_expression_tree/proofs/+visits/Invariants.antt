-- the size of what is visited
use Rattle.std.proofs.Common.{◌+◌, ◌*◌}
use Rattle.wild_expression_tree.specs.Shape.{seen_held, size_held}
use Rattle.wild_expression_tree.specs.declared.tree.Expression.{size-Expression}
use Rattle.wild_expression_tree.proofs.+visits.Given as goal

abbrev pub decreases-tree::Expression::visit_expressions :
    goal.decreases-tree::Expression::visit_expressions
decreases-tree::Expression::visit_expressions g l = 2 * size-Expression l.self.now

abbrev pub decreases-visit::visit_part : goal.decreases-visit::visit_part
decreases-visit::visit_part g l = 2 * size_held (seen_held l.part) + 1
