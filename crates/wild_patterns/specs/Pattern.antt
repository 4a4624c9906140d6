-- Patterns of names of input sections.
use Rattle.std.specs.Prelude.{ℕ, Bool, true, false, not, List, codes}
use Rattle.wild_reading.specs.Position.{Bytes}
use Rattle.wild_reading.specs.Bytes.{begins, begins_with}
use Rattle.wild_reading.specs.Reader.{Reader, ◌>>=◌, ◌>>◌, Give, Ahead, Choice, Until}
use Rattle.wild_reading.specs.Lex as lexis
use Rattle.wild_reading.specs.declared.classes.Class.TheVariants as k
use Rattle.wild_script_tree.specs.declared.tree.SectionPattern.{SectionPattern}

-- ---- sort words

-- one of the sort words, or another word that begins like them
unfoldable pub begins_sort : Bytes → ℕ → Bool
begins_sort b i = begins_with (codes "SORT") b i

-- the sort word that does not sort by name
unfoldable pub begins_alignment : Bytes → ℕ → Bool
begins_alignment b i = begins_with (codes "SORT_BY_ALIGNMENT") b i

-- `SORT` is not ahead
unfoldable pub has_no_sort : Bytes → ℕ → Bool
has_no_sort b i = not (begins_sort b i)

-- as a step
unfoldable pub no_sort : Reader (Unit {0})
no_sort = Ahead has_no_sort

-- a sort word and its bracket, with no other sort word directly after it
unfoldable pub sort_open : Reader (Unit {0})
sort_open = do
  lexis.sort_bracket
  no_sort

-- ---- patterns

-- a name between gaps
unfoldable pub pattern_name : Reader (List ℕ)
pattern_name = do
  lexis.gap
  word ← lexis.run k.Pattern
  lexis.gap
  Give word.content

-- a name alone
unfoldable pub bare_pattern : Reader SectionPattern
bare_pattern = do
  name ← pattern_name
  Give (record { name = name; sorted = false })

-- a sort word, and a name in its brackets
unfoldable pub sort_pattern : Bool → Reader SectionPattern
sort_pattern is_sorted = do
  sort_open
  name ← pattern_name
  lexis.symbol 41
  Give (record { name = name; sorted = is_sorted })

-- sorted for SORT and SORT_BY_NAME
unfoldable pub word_pattern : Reader SectionPattern
word_pattern = Choice begins_alignment (sort_pattern false) (sort_pattern true)

-- a pattern with a sort word where `SORT` is ahead
unfoldable pub pattern : Reader SectionPattern
pattern = Choice begins_sort word_pattern bare_pattern

-- patterns up to a bracket
unfoldable pub patterns : Reader (List SectionPattern)
patterns = Until (begins 41) pattern

-- patterns in brackets
unfoldable pub pattern_list : Reader (List SectionPattern)
pattern_list = do
  lexis.symbol 40
  found ← patterns
  lexis.symbol 41
  Give found
