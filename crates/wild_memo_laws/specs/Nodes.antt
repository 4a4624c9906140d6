-- How many nodes an expression has.
use Rattle.std.specs.List.{sum}
use Rattle.std.specs.Prelude.{ℕ, suc}
use Rattle.wild_expression_tree.specs.declared.tree.Expression.{Expression}
use Rattle.wild_expression_tree.specs.Shape.{Shape, map_shape, parts, fold}

-- a node counts as one, over its parts
abbrev pub counted : Shape ℕ → ℕ
counted s = suc (sum (parts s))

-- the nodes of an expression
unfoldable pub nodes : Expression → ℕ
nodes e = fold counted e

-- the nodes of the parts of a node
abbrev pub part_nodes : Shape Expression → ℕ
part_nodes s = sum (parts (map_shape nodes s))
