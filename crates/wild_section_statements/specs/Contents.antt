-- What is in output sections.
use Rattle.std.specs.Prelude.{ℕ, Bool, true, false, List, Option, Some, None}
use Rattle.wild_reading.specs.Bytes.{begins}
use Rattle.wild_reading.specs.Reader.{Reader, ◌>>=◌, ◌>>◌, Give, check, Choice, If, Until}
use Rattle.wild_reading.specs.Lex.{word, symbol, optional_symbol}
use Rattle.wild_reading.specs.Lex as lexis
use Rattle.wild_expression_words.specs.Dialect.{Dialect}
use Rattle.wild_expression_words.specs.Words.{is_counter}
use Rattle.wild_expression.specs.Parts.{assert_body}
use Rattle.wild_patterns.specs.Matcher.{keep_matcher, file_matcher}
use Rattle.wild_statements.specs.Assignment.{begins_assignment, tight_value}
use Rattle.wild_statements.specs.Provide.{provide_body}
use Rattle.wild_section_statements.specs.Words.{contents_word, is_constructors}
use Rattle.wild_section_statements.specs.declared.words.ContentsWord.{ContentsWord}
use Rattle.wild_section_statements.specs.declared.words.ContentsWord.TheVariants as k
use Rattle.wild_script_tree.specs.declared.tree.ContentsCommand.{ContentsCommand}
use Rattle.wild_script_tree.specs.declared.tree.ContentsCommand.TheVariants as command

-- ---- where a bracket is ahead

-- after KEEP; a semicolon or none
unfoldable pub keep_statement : Reader ContentsCommand
keep_statement = do
  read ← keep_matcher
  optional_symbol 59
  Give (command.Matcher read)

-- after the token of a file; a semicolon or none
unfoldable pub file_statement : List ℕ → Reader ContentsCommand
file_statement file = do
  read ← file_matcher false file
  optional_symbol 59
  Give (command.Matcher read)

-- after PROVIDE or PROVIDE_HIDDEN
unfoldable pub provide_contents : Dialect → Bool → Reader ContentsCommand
provide_contents dialect is_hidden = do
  provide ← provide_body dialect is_hidden
  Give (command.Provide provide)

-- the brackets of an ASSERT; a semicolon or none
unfoldable pub assert_contents : Dialect → Reader ContentsCommand
assert_contents dialect = do
  body ← assert_body dialect
  optional_symbol 59
  Give (command.Assert body)

-- after the word of a statement
abbrev pub word_contents : Dialect → ContentsWord → Reader ContentsCommand
word_contents dialect k.Provide = provide_contents dialect false
word_contents dialect k.ProvideHidden = provide_contents dialect true
word_contents dialect k.Assert = assert_contents dialect
word_contents dialect k.Keep = keep_statement

-- the word decides; any other token is a file
abbrev pub after_contents_word : Dialect → List ℕ → Option ContentsWord → Reader ContentsCommand
after_contents_word dialect file None = file_statement file
after_contents_word dialect file (Some found) = word_contents dialect found

-- after the first token
unfoldable pub bracket_contents : Dialect → lexis.Word → Reader ContentsCommand
bracket_contents dialect first = after_contents_word dialect first.content (contents_word first)

-- ---- where an assignment operator is ahead; directly after the value a semicolon or none

-- what is assigned to the location counter
unfoldable pub counter_contents : Dialect → List ℕ → Reader ContentsCommand
counter_contents dialect name = do
  x ← tight_value dialect name
  Give (command.SetLocation (record { address = x }))

-- what is assigned to a symbol
unfoldable pub symbol_contents : Dialect → List ℕ → Reader ContentsCommand
symbol_contents dialect name = do
  x ← tight_value dialect name
  Give (command.SymbolAssignment (record { name = name; expr = x }))

-- what is assigned to a name
unfoldable pub assigned_contents : Dialect → List ℕ → Reader ContentsCommand
assigned_contents dialect name = If (is_counter name) (counter_contents dialect name) (symbol_contents dialect name)

-- ---- statements

-- the word CONSTRUCTORS, which was read
unfoldable pub constructors : lexis.Word → Reader ContentsCommand
constructors first = do
  check (is_constructors first)
  Give command.Constructors

-- after the first token, where no bracket is ahead
unfoldable pub bare_contents : Dialect → lexis.Word → Reader ContentsCommand
bare_contents dialect first = Choice begins_assignment (assigned_contents dialect first.content) (constructors first)

-- what is ahead decides
unfoldable pub after_token : Dialect → lexis.Word → Reader ContentsCommand
after_token dialect first = Choice (begins 40) (bracket_contents dialect first) (bare_contents dialect first)

-- a statement in a section
unfoldable pub contents_statement : Dialect → Reader ContentsCommand
contents_statement dialect = do
  first ← word
  after_token dialect first

-- statements up to a brace
unfoldable pub statements : Dialect → Reader (List ContentsCommand)
statements dialect = Until (begins 125) (contents_statement dialect)

-- statements in braces
unfoldable pub contents : Dialect → Reader (List ContentsCommand)
contents dialect = do
  symbol 123
  found ← statements dialect
  symbol 125
  Give found
