-- Parts of statements that are made of expressions.
use Rattle.wild_reading.specs.Reader.{Reader, ◌>>=◌, ◌>>◌, Give, here}
use Rattle.wild_reading.specs.Lex.{gap, symbol, name}
use Rattle.wild_expression_tree.specs.declared.tree.AssertCommand.{AssertCommand}
use Rattle.wild_expression_tree.specs.declared.tree.Expression.{Expression}
use Rattle.wild_expression_words.specs.declared.operators.Level.TheVariants.{Ternary}
use Rattle.wild_expression_words.specs.Dialect.{Dialect}
use Rattle.wild_expression.specs.Grammar.{value_by}

-- an expression, with the white after it
unfoldable pub expression : Dialect → Reader Expression
expression dialect = do
  x ← value_by dialect Ternary
  Give x.expression

-- the brackets of an ASSERT, with a condition and a message, and the gap after them
unfoldable pub assert_body : Dialect → Reader AssertCommand
assert_body dialect = do
  at ← here
  symbol 40
  condition ← expression dialect
  gap
  symbol 44
  message ← name
  symbol 41
  Give (record { expression = condition; message = message; at = at })
