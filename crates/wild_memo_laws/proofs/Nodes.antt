-- A node has one node more than its parts.
use Rattle.std.proofs.Common.{◌≡◌, ◌<◌, suc, arith}
use Rattle.wild_expression_tree.specs.declared.tree.Expression.{Expression}
use Rattle.wild_expression_tree.specs.Shape.{shape}
use Rattle.wild_expression_tree.proofs.Folded.{folded}
use Rattle.wild_memo_laws.specs.Nodes.{counted, nodes, part_nodes}

pub nodes_is : (e : Expression) → nodes e ≡ suc (part_nodes (shape e))
unfolding nodes
nodes_is e = folded counted e

pub parts_have_fewer_nodes : (e : Expression) → part_nodes (shape e) < nodes e
parts_have_fewer_nodes e = omega (arith, nodes_is e)
