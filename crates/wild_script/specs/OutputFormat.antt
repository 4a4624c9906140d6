-- OUTPUT_FORMAT: one name, or one for each endianness too.
use Rattle.std.specs.Prelude.{ℕ, List, Some, None}
use Rattle.wild_reading.specs.Bytes.{begins}
use Rattle.wild_reading.specs.Reader.{Reader, ◌>>=◌, ◌>>◌, Give, Choice}
use Rattle.wild_reading.specs.Lex.{symbol, name}
use Rattle.wild_script_tree.specs.declared.tree.OutputFormat as tree
use Rattle.wild_script_tree.specs.declared.tree.Command.{Command}
use Rattle.wild_script_tree.specs.declared.tree.Command.TheVariants as variant

-- nothing after the first name
unfoldable pub default_alone : List ℕ → Reader tree.OutputFormat
default_alone default = do
  symbol 41
  Give (record { default = default; big = None; little = None })

-- two more names, each after a comma
unfoldable pub all_three : List ℕ → Reader tree.OutputFormat
all_three default = do
  symbol 44
  big ← name
  symbol 44
  little ← name
  symbol 41
  Give (record { default = default; big = Some big; little = Some little })

-- after the first name
unfoldable pub after_default : List ℕ → Reader tree.OutputFormat
after_default default = Choice (begins 44) (all_three default) (default_alone default)

-- in brackets a name, or three
unfoldable pub formats : Reader tree.OutputFormat
formats = do
  symbol 40
  default ← name
  after_default default

-- after OUTPUT_FORMAT
unfoldable pub format_command : Reader Command
format_command = do
  found ← formats
  Give (variant.OutputFormat found)
