-- Outermost commands that hold no others.
use Rattle.std.specs.Prelude.{ℕ, Bool, List}
use Rattle.wild_reading.specs.Reader.{Reader, ◌>>=◌, ◌>>◌, Give, If, Choice}
use Rattle.wild_reading.specs.Lex.{optional_symbol}
use Rattle.wild_expression_words.specs.Words.{is_counter}
use Rattle.wild_expression_words.specs.Dialect.{Dialect}
use Rattle.wild_expression.specs.Parts.{assert_body}
use Rattle.wild_statements.specs.Assignment.{begins_assignment, open_value}
use Rattle.wild_statements.specs.Provide.{provide_body}
use Rattle.wild_script_tree.specs.declared.tree.Command.{Command}
use Rattle.wild_script_tree.specs.declared.tree.Command.TheVariants as variant

-- the brackets of an ASSERT; a semicolon or none
unfoldable pub assert_command : Dialect → Reader Command
assert_command dialect = do
  body ← assert_body dialect
  optional_symbol 59
  Give (variant.Assert body)

-- after PROVIDE or PROVIDE_HIDDEN
unfoldable pub provide_command : Dialect → Bool → Reader Command
provide_command dialect is_hidden = do
  provide ← provide_body dialect is_hidden
  Give (variant.Provide provide)

-- what is assigned to the location counter
unfoldable pub location_command : Dialect → List ℕ → Reader Command
location_command dialect name = do
  x ← open_value dialect name
  Give (variant.SetLocation (record { address = x }))

-- what is assigned to a symbol
unfoldable pub symbol_definition : Dialect → List ℕ → Reader Command
symbol_definition dialect name = do
  x ← open_value dialect name
  Give (variant.SymbolDefinition name x)

-- what is assigned to a name
unfoldable pub assignment_command : Dialect → List ℕ → Reader Command
assignment_command dialect name = If (is_counter name) (location_command dialect name) (symbol_definition dialect name)

-- a name alone
unfoldable pub argument : List ℕ → Reader Command
argument name = Give (variant.Arg name)

-- after a name: what is assigned to it, where an operator is ahead
unfoldable pub named_command : Dialect → List ℕ → Reader Command
named_command dialect name = Choice begins_assignment (assignment_command dialect name) (argument name)
