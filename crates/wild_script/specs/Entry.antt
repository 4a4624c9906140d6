-- ENTRY: the symbol at which a program begins.
use Rattle.wild_reading.specs.Reader.{Reader, ◌>>=◌, ◌>>◌, Give}
use Rattle.wild_reading.specs.Lex.{symbol, name}
use Rattle.wild_script_tree.specs.declared.tree.Command.{Command}
use Rattle.wild_script_tree.specs.declared.tree.Command.TheVariants as variant

-- after ENTRY: a name in brackets
unfoldable pub entry_command : Reader Command
entry_command = do
  symbol 40
  start ← name
  symbol 41
  Give (variant.Entry start)
