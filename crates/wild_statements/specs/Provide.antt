-- Symbols that are defined where nothing else defines them.
use Rattle.std.specs.Prelude.{Bool}
use Rattle.wild_reading.specs.Reader.{Reader, ◌>>=◌, ◌>>◌, Give}
use Rattle.wild_reading.specs.Lex.{gap, symbol, optional_symbol, name}
use Rattle.wild_expression_words.specs.Dialect.{Dialect}
use Rattle.wild_expression.specs.Parts.{expression}
use Rattle.wild_script_tree.specs.declared.tree.ProvideSymbolDefinition.{ProvideSymbolDefinition}

-- in brackets a name, `=` and an expression; a semicolon or none
unfoldable pub provide_body : Dialect → Bool → Reader ProvideSymbolDefinition
provide_body dialect is_hidden = do
  symbol 40
  target ← name
  symbol 61
  x ← expression dialect
  gap
  symbol 41
  optional_symbol 59
  Give (record { name = target; value = x; hidden = is_hidden })
