-- Statements of SECTIONS.
use Rattle.std.specs.Prelude.{ℕ, Bool, true, false, List, Option, Some, None}
use Rattle.wild_reading.specs.Bytes.{begins}
use Rattle.wild_reading.specs.Reader.{Reader, ◌>>=◌, ◌>>◌, Give, Choice, If, Until}
use Rattle.wild_reading.specs.Lex.{word}
use Rattle.wild_expression_words.specs.Dialect.{Dialect}
use Rattle.wild_expression_words.specs.Words.{is_counter}
use Rattle.wild_expression.specs.Parts.{assert_body}
use Rattle.wild_statements.specs.Assignment.{begins_assignment, closed_value}
use Rattle.wild_statements.specs.Provide.{provide_body}
use Rattle.wild_section_statements.specs.Words.{statement_word}
use Rattle.wild_section_statements.specs.declared.words.StatementWord.{StatementWord}
use Rattle.wild_section_statements.specs.declared.words.StatementWord.TheVariants as s
use Rattle.wild_section_statements.specs.Section.{named}
use Rattle.wild_script_tree.specs.declared.tree.SectionCommand.{SectionCommand}
use Rattle.wild_script_tree.specs.declared.tree.SectionCommand.TheVariants as command

-- an output section, after its name
unfoldable pub section_statement : Dialect → List ℕ → Reader SectionCommand
section_statement dialect name = do
  found ← named dialect name
  Give (command.Section found)

-- the brackets of an ASSERT
unfoldable pub assert_statement : Dialect → Reader SectionCommand
assert_statement dialect = do
  body ← assert_body dialect
  Give (command.Assert body)

-- after PROVIDE or PROVIDE_HIDDEN
unfoldable pub provide_statement : Dialect → Bool → Reader SectionCommand
provide_statement dialect is_hidden = do
  provide ← provide_body dialect is_hidden
  Give (command.Provide provide)

-- what is assigned to the location counter
unfoldable pub counter_statement : Dialect → List ℕ → Reader SectionCommand
counter_statement dialect name = do
  x ← closed_value dialect name
  Give (command.SetLocation (record { address = x }))

-- what is assigned to a symbol
unfoldable pub symbol_statement : Dialect → List ℕ → Reader SectionCommand
symbol_statement dialect name = do
  x ← closed_value dialect name
  Give (command.SymbolAssignment (record { name = name; expr = x }))

-- what is assigned to a name, and a semicolon
unfoldable pub assigned_statement : Dialect → List ℕ → Reader SectionCommand
assigned_statement dialect name = If (is_counter name) (counter_statement dialect name) (symbol_statement dialect name)

-- after a name
unfoldable pub named_statement : Dialect → List ℕ → Reader SectionCommand
named_statement dialect name = Choice begins_assignment (assigned_statement dialect name) (section_statement dialect name)

-- after the word of a statement
abbrev pub word_statement : Dialect → StatementWord → Reader SectionCommand
word_statement dialect s.Assert = assert_statement dialect
word_statement dialect s.Provide = provide_statement dialect false
word_statement dialect s.ProvideHidden = provide_statement dialect true

-- the word decides
abbrev pub after_statement_word : Dialect → List ℕ → Option StatementWord → Reader SectionCommand
after_statement_word dialect first None = named_statement dialect first
after_statement_word dialect first (Some found) = word_statement dialect found

-- after the first token of a statement
unfoldable pub after_first : Dialect → List ℕ → Reader SectionCommand
after_first dialect first = after_statement_word dialect first (statement_word first)

-- a statement in SECTIONS
unfoldable pub statement : Dialect → Reader SectionCommand
statement dialect = do
  name ← word
  after_first dialect name.content

-- statements up to a brace
unfoldable pub section_statements : Dialect → Reader (List SectionCommand)
section_statements dialect = Until (begins 125) (statement dialect)
