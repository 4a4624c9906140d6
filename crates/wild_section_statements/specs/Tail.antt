-- What is after the braces of a section: its program headers, which add up, its region and its fill; of these the last
-- counts.
use Rattle.std.specs.Prelude.{ℕ, Bool, not, ◌||◌, List, [], ◌∷◌, ◌++◌, Some}
use Rattle.wild_reading.specs.Position.{Bytes}
use Rattle.wild_reading.specs.Bytes.{begins}
use Rattle.wild_reading.specs.Reader.{Reader, ◌>>=◌, ◌>>◌, Give, Choice}
use Rattle.wild_reading.specs.Family.{Folds}
use Rattle.wild_reading.specs.Lex.{gap, symbol, name}
use Rattle.wild_expression_words.specs.Dialect.{Dialect}
use Rattle.wild_expression.specs.Parts.{expression}
use Rattle.wild_script_tree.specs.declared.tree.Section.{Section}

-- a colon and the name of a header
unfoldable pub header_item : Section → Reader Section
header_item s = do
  symbol 58
  header ← name
  Give (record s { phdrs = s.phdrs ++ header ∷ [] })

-- `>` and the name of a region
unfoldable pub region_item : Section → Reader Section
region_item s = do
  symbol 62
  found ← name
  Give (record s { region = Some found })

-- `=` and an expression
unfoldable pub fill_item : Dialect → Section → Reader Section
fill_item dialect s = do
  symbol 61
  x ← expression dialect
  gap
  Give (record s { fill = Some (record { value = x }) })

-- a region where `>` is ahead, and else a fill
unfoldable pub region_or_fill : Dialect → Section → Reader Section
region_or_fill dialect s = Choice (begins 62) (region_item s) (fill_item dialect s)

-- a header where a colon is ahead, and else another
unfoldable pub tail_item : Dialect → Section → Reader Section
tail_item dialect s = Choice (begins 58) (header_item s) (region_or_fill dialect s)

-- none of `:`, `>` and `=` is ahead
unfoldable pub ends_tail : Bytes → ℕ → Bool
ends_tail b i = not (begins 58 b i || begins 62 b i || begins 61 b i)

-- as many as there are
unfoldable pub tail : Dialect → Section → Reader Section
tail dialect s = Folds ends_tail (tail_item dialect) s
