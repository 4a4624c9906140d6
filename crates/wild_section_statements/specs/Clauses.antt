-- Clauses between the colon and the brace of a section: AT and ALIGN; of each the last counts.
use Rattle.std.specs.Prelude.{ℕ, Bool, Some, codes}
use Rattle.wild_reading.specs.Position.{Bytes}
use Rattle.wild_reading.specs.Bytes.{begins, begins_with}
use Rattle.wild_reading.specs.Reader.{Reader, ◌>>=◌, ◌>>◌, Give, Choice}
use Rattle.wild_reading.specs.Family.{Folds}
use Rattle.wild_reading.specs.Lex.{gap, symbol, keyword}
use Rattle.wild_expression_tree.specs.declared.tree.Expression.{Expression}
use Rattle.wild_expression_words.specs.Dialect.{Dialect}
use Rattle.wild_expression.specs.Parts.{expression}
use Rattle.wild_script_tree.specs.declared.tree.Section.{Section}

-- an expression in brackets, with gaps
unfoldable pub in_brackets : Dialect → Reader Expression
in_brackets dialect = do
  symbol 40
  x ← expression dialect
  gap
  symbol 41
  Give x

-- a load address
unfoldable pub at_clause : Dialect → Section → Reader Section
at_clause dialect s = do
  keyword (codes "AT")
  x ← in_brackets dialect
  Give (record s { at_address = Some x })

-- an alignment
unfoldable pub align_clause : Dialect → Section → Reader Section
align_clause dialect s = do
  keyword (codes "ALIGN")
  x ← in_brackets dialect
  Give (record s { alignment = Some x })

-- AT is ahead
unfoldable pub begins_at : Bytes → ℕ → Bool
begins_at b i = begins_with (codes "AT") b i

-- one of the two
unfoldable pub clause : Dialect → Section → Reader Section
clause dialect s = Choice begins_at (at_clause dialect s) (align_clause dialect s)

-- up to a brace
unfoldable pub clauses : Dialect → Section → Reader Section
clauses dialect s = Folds (begins 123) (clause dialect) s
