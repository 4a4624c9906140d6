-- Outermost commands, and those that are in the brackets of others.
use Rattle.std.specs.Prelude.{ℕ, true, false, List, Option, Some, None}
use Rattle.wild_reading.specs.Bytes.{begins}
use Rattle.wild_reading.specs.Reader.{Reader, ◌>>=◌, ◌>>◌, Give, Until, Inside}
use Rattle.wild_reading.specs.Lex.{word, symbol}
use Rattle.wild_expression_words.specs.Dialect.{Dialect}
use Rattle.wild_script.specs.Words.{command_word}
use Rattle.wild_script.specs.declared.words.CommandWord.{CommandWord}
use Rattle.wild_script.specs.declared.words.CommandWord.TheVariants as c
use Rattle.wild_script.specs.declared.words.Nest as words
use Rattle.wild_script.specs.declared.words.Nest.TheVariants as n
use Rattle.wild_script.specs.Entry.{entry_command}
use Rattle.wild_script.specs.Memory.{memory_command}
use Rattle.wild_script.specs.Outermost.{assert_command, named_command, provide_command}
use Rattle.wild_script.specs.OutputFormat.{format_command}
use Rattle.wild_script.specs.Phdrs.{phdrs_command}
use Rattle.wild_script.specs.Sections.{sections_command}
use Rattle.wild_script.specs.Version.{version_command}
use Rattle.wild_script_tree.specs.declared.tree.Command.{Command}
use Rattle.wild_script_tree.specs.declared.tree.Command.TheVariants as variant

-- ---- commands, from lists of those that are one deeper

-- a list of commands
abbrev pub Commands : Type 1
Commands = Reader (List Command)

-- the command over these
abbrev pub nest_node : words.Nest → List Command → Command
nest_node n.Group commands = variant.Group commands
nest_node n.AsNeeded commands = variant.AsNeeded commands
nest_node n.Ignored commands = variant.Ignored

-- in brackets commands that are one deeper
unfoldable pub nest_of : Commands → words.Nest → Reader Command
nest_of inner kind = do
  symbol 40
  commands ← inner
  symbol 41
  Give (nest_node kind commands)

-- after the word of a command
abbrev pub word_command_of : Dialect → Commands → CommandWord → Reader Command
word_command_of dialect inner (c.Nest kind) = nest_of inner kind
word_command_of dialect inner c.OutputFormat = format_command
word_command_of dialect inner c.Sections = sections_command dialect
word_command_of dialect inner c.Entry = entry_command
word_command_of dialect inner c.Version = version_command
word_command_of dialect inner c.Provide = provide_command dialect false
word_command_of dialect inner c.ProvideHidden = provide_command dialect true
word_command_of dialect inner c.Assert = assert_command dialect
word_command_of dialect inner c.Memory = memory_command dialect
word_command_of dialect inner c.Phdrs = phdrs_command dialect

-- the word decides
abbrev pub found_word_of : Dialect → Commands → List ℕ → Option CommandWord → Reader Command
found_word_of dialect inner first None = named_command dialect first
found_word_of dialect inner first (Some found) = word_command_of dialect inner found

-- after the first token of a command
unfoldable pub after_word_of : Dialect → Commands → List ℕ → Reader Command
after_word_of dialect inner first = found_word_of dialect inner first (command_word first)

-- a command
unfoldable pub command_of : Dialect → Commands → Reader Command
command_of dialect inner = do
  first ← word
  after_word_of dialect inner first.content

-- commands up to a bracket
unfoldable pub list_of : Dialect → Commands → Commands
list_of dialect inner = Until (begins 41) (command_of dialect inner)

-- ---- the knot: what is one deeper is read in the same way

-- commands up to a bracket, one deeper
unfoldable pub inner_list : Dialect → Commands
inner_list dialect = Inside (list_of dialect)

-- commands up to a bracket
unfoldable pub list : Dialect → Commands
list dialect = list_of dialect (inner_list dialect)

-- in brackets commands that are one deeper
unfoldable pub nest : Dialect → words.Nest → Reader Command
nest dialect kind = nest_of (inner_list dialect) kind

-- after the word of a command
unfoldable pub word_command : Dialect → CommandWord → Reader Command
word_command dialect found = word_command_of dialect (inner_list dialect) found

-- after the first token of a command
unfoldable pub after_word : Dialect → List ℕ → Reader Command
after_word dialect first = after_word_of dialect (inner_list dialect) first

-- a command
unfoldable pub command : Dialect → Reader Command
command dialect = command_of dialect (inner_list dialect)
