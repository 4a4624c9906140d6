-- Assignments: an operator and an expression.
use Rattle.std.specs.Prelude.{ℕ, ◌+◌, Bool, false, not, ◌||◌, ◌&&◌, if◌then◌else◌, List, Option, Some, None}
use Rattle.wild_reading.specs.Position.{Bytes}
use Rattle.wild_reading.specs.Bytes.{begins}
use Rattle.wild_reading.specs.Reader.{Reader, ◌>>=◌, ◌>>◌, Give, Takes, Choice}
use Rattle.wild_reading.specs.Lex.{gap, symbol, optional_symbol}
use Rattle.wild_expression_tree.specs.declared.tree.Expression.{Expression}
use Rattle.wild_expression_tree.specs.declared.tree.Expression.TheVariants as e
use Rattle.wild_expression_words.specs.declared.operators.Level.TheVariants.{Ternary}
use Rattle.wild_expression_words.specs.declared.operators.Operator.{Operator}
use Rattle.wild_expression_words.specs.declared.operators.Operator.TheVariants as o
use Rattle.wild_expression_words.specs.Operators.{node}
use Rattle.wild_expression_words.specs.Words.{is_counter}
use Rattle.wild_expression_words.specs.Dialect.{Dialect}
use Rattle.wild_expression.specs.Grammar.{inner_by}
use Rattle.wild_expression.specs.Parts.{expression}

-- ---- operators

-- `=`, not before `=` or `/`
unfoldable pub begins_set : Bytes → ℕ → Bool
begins_set b i = begins 61 b i && not (begins 61 b (i + 1) || begins 47 b (i + 1))

-- the byte, twice
abbrev pub begins_twice : ℕ → Bytes → ℕ → Bool
begins_twice c b i = begins c b i && begins c b (i + 1)

-- one of `+ - * / << >> & | ^`, and the position after it
unfoldable pub change_at : Bytes → ℕ → Option (Operator × ℕ)
change_at b i =
    if begins 43 b i then Some (o.Add, i + 1) else (
    if begins 45 b i then Some (o.Subtract, i + 1) else (
    if begins 42 b i then Some (o.Multiply, i + 1) else (
    if begins 47 b i then Some (o.Divide, i + 1) else (
    if begins_twice 60 b i then Some (o.LeftShift, i + 2) else (
    if begins_twice 62 b i then Some (o.RightShift, i + 2) else (
    if begins 38 b i then Some (o.BitwiseAnd, i + 1) else (
    if begins 124 b i then Some (o.BitwiseOr, i + 1) else (
    if begins 94 b i then Some (o.BitwiseXor, i + 1) else None))))))))

-- `=` is at the end of what was found
abbrev pub is_before_equal : Bytes → Option (Operator × ℕ) → Bool
is_before_equal b None = false
is_before_equal b (Some found) = begins 61 b found.1

-- one of them, directly before `=`
unfoldable pub begins_change : Bytes → ℕ → Bool
begins_change b i = is_before_equal b (change_at b i)

-- an assignment operator is ahead
unfoldable pub begins_assignment : Bytes → ℕ → Bool
begins_assignment b i = begins_set b i || begins_change b i

-- ---- values

-- what a name stands for in an expression
abbrev pub target_of : List ℕ → Expression
target_of name = if is_counter name then e.LocationCounter else e.Symbol name

-- the name changed by the operator
abbrev pub change_node : Operator → List ℕ → Expression → Expression
change_node op name x = node op (target_of name) x

-- `=`, and an expression
unfoldable pub set_value : Dialect → Reader Expression
set_value dialect = do
  symbol 61
  expression dialect

-- one of these operators
unfoldable pub change : Reader Operator
change = Takes change_at

-- an operator before `=`, and an expression: the value is that of the operator over the name and the expression
unfoldable pub changed_value : Dialect → List ℕ → Reader Expression
changed_value dialect name = do
  op ← change
  symbol 61
  x ← inner_by dialect Ternary
  Give (change_node op name x.expression)

-- what is assigned to a name
unfoldable pub assigned_value : Dialect → List ℕ → Reader Expression
assigned_value dialect name = Choice begins_set (set_value dialect) (changed_value dialect name)

-- what is assigned to a name; directly after it a semicolon or none
unfoldable pub tight_value : Dialect → List ℕ → Reader Expression
tight_value dialect name = do
  x ← assigned_value dialect name
  optional_symbol 59
  Give x

-- what is assigned to a name, and a gap; a semicolon or none
unfoldable pub open_value : Dialect → List ℕ → Reader Expression
open_value dialect name = do
  x ← assigned_value dialect name
  gap
  optional_symbol 59
  Give x

-- what is assigned to a name, a gap, and a semicolon
unfoldable pub closed_value : Dialect → List ℕ → Reader Expression
closed_value dialect name = do
  x ← assigned_value dialect name
  gap
  symbol 59
  Give x
