-- SECTIONS: statements in braces.
use Rattle.wild_reading.specs.Reader.{Reader, ◌>>=◌, ◌>>◌, Give}
use Rattle.wild_reading.specs.Lex.{symbol}
use Rattle.wild_expression_words.specs.Dialect.{Dialect}
use Rattle.wild_section_statements.specs.Statement.{section_statements}
use Rattle.wild_script_tree.specs.declared.tree.Sections as tree
use Rattle.wild_script_tree.specs.declared.tree.Command.{Command}
use Rattle.wild_script_tree.specs.declared.tree.Command.TheVariants as variant

-- statements in braces
unfoldable pub sections : Dialect → Reader tree.Sections
sections dialect = do
  symbol 123
  statements ← section_statements dialect
  symbol 125
  Give (record { commands = statements })

-- after SECTIONS
unfoldable pub sections_command : Dialect → Reader Command
sections_command dialect = do
  read ← sections dialect
  Give (variant.Sections read)
