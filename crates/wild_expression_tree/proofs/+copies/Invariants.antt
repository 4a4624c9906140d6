-- the size of what is copied, and how far its copy is from that of a smaller expression
use Rattle.std.proofs.Common.{◌+◌, ◌*◌}
use Rattle.wild_expression_tree.specs.Shape.{seen_held, size_held}
use Rattle.wild_expression_tree.specs.declared.tree.Expression.{size-Expression}
use Rattle.wild_expression_tree.proofs.+copies.Given as goal

abbrev pub decreases-copy::held : goal.decreases-copy::held
decreases-copy::held l = 3 * size_held (seen_held l.held) + 2

abbrev pub decreases-copy::part : goal.decreases-copy::part
decreases-copy::part l = 3 * size-Expression l.part.now + 1

abbrev pub decreases-tree::AssertCommand::copy : goal.decreases-tree::AssertCommand::copy
decreases-tree::AssertCommand::copy l = 3 * size-Expression l.self.now.expression + 2

abbrev pub decreases-tree::Expression::copy : goal.decreases-tree::Expression::copy
decreases-tree::Expression::copy l = 3 * size-Expression l.self.now
