-- MEMORY: regions of memory.
use Rattle.std.specs.Prelude.{List, codes}
use Rattle.wild_reading.specs.Bytes.{begins, begins_with}
use Rattle.wild_reading.specs.Reader.{Reader, ◌>>=◌, ◌>>◌, Give, Choice, Until}
use Rattle.wild_reading.specs.Lex.{gap, name, symbol, keyword}
use Rattle.wild_expression_words.specs.Dialect.{Dialect}
use Rattle.wild_expression.specs.Parts.{expression}
use Rattle.wild_script_tree.specs.declared.tree.MemoryRegion.{MemoryRegion}
use Rattle.wild_script_tree.specs.declared.tree.Command.{Command}
use Rattle.wild_script_tree.specs.declared.tree.Command.TheVariants as variant

-- the first of ORIGIN, org and o that is there
unfoldable pub origin_word : Reader (Unit {0})
origin_word =
    Choice (begins_with (codes "ORIGIN")) (keyword (codes "ORIGIN"))
    (Choice (begins_with (codes "org")) (keyword (codes "org")) (keyword (codes "o")))

-- the first of LENGTH, len and l that is there
unfoldable pub length_word : Reader (Unit {0})
length_word =
    Choice (begins_with (codes "LENGTH")) (keyword (codes "LENGTH"))
    (Choice (begins_with (codes "len")) (keyword (codes "len")) (keyword (codes "l")))

-- a name and a colon, where the region begins, and how long it is
unfoldable pub region : Dialect → Reader MemoryRegion
region dialect = do
  title ← name
  symbol 58
  origin_word
  symbol 61
  origin ← expression dialect
  gap
  symbol 44
  length_word
  symbol 61
  size ← expression dialect
  Give (record { name = title; origin = origin; length = size })

-- regions up to a brace
unfoldable pub regions : Dialect → Reader (List MemoryRegion)
regions dialect = Until (begins 125) (region dialect)

-- after MEMORY: regions in braces
unfoldable pub memory_command : Dialect → Reader Command
memory_command dialect = do
  symbol 123
  all ← regions dialect
  symbol 125
  Give (variant.Memory all)
