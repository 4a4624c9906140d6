-- PHDRS: program headers.
use Rattle.std.specs.Prelude.{ℕ, Bool, true, false, not, ◌||◌, if◌then◌else◌, List, Option, Some, None, codes}
use Rattle.std.specs.Str.{bytes_eq}
use Rattle.wild_reading.specs.Position.{Bytes}
use Rattle.wild_reading.specs.Bytes.{begins, begins_with}
use Rattle.wild_reading.specs.Reader.{Reader, ◌>>=◌, ◌>>◌, Give, Nothing, Choice, Until}
use Rattle.wild_reading.specs.Family.{Folds}
use Rattle.wild_reading.specs.Lex.{byte, gap, word, name, symbol, optional_symbol, keyword}
use Rattle.wild_expression_words.specs.Dialect.{Dialect}
use Rattle.wild_expression.specs.Parts.{expression}
use Rattle.wild_expression_tree.specs.declared.tree.Expression.{Expression}
use Rattle.wild_expression_tree.specs.declared.tree.Expression.TheVariants as e
use Rattle.wild_script_tree.specs.declared.tree.Phdr.{Phdr}
use Rattle.wild_script_tree.specs.declared.tree.Command.{Command}
use Rattle.wild_script_tree.specs.declared.tree.Command.TheVariants as variant

-- ---- types

-- the number of the type that these bytes name
abbrev pub type_number : Bytes → Option ℕ
type_number content =
    if bytes_eq content (codes "PT_NULL") then Some 0 else (
    if bytes_eq content (codes "PT_LOAD") then Some 1 else (
    if bytes_eq content (codes "PT_DYNAMIC") then Some 2 else (
    if bytes_eq content (codes "PT_INTERP") then Some 3 else (
    if bytes_eq content (codes "PT_NOTE") then Some 4 else (
    if bytes_eq content (codes "PT_SHLIB") then Some 5 else (
    if bytes_eq content (codes "PT_PHDR") then Some 6 else (
    if bytes_eq content (codes "PT_TLS") then Some 7 else (
    if bytes_eq content (codes "PT_GNU_EH_FRAME") then Some 0x6474e550 else (
    if bytes_eq content (codes "PT_GNU_STACK") then Some 0x6474e551 else (
    if bytes_eq content (codes "PT_GNU_RELRO") then Some 0x6474e552 else (
    if bytes_eq content (codes "PT_GNU_PROPERTY") then Some 0x6474e553 else (
    if bytes_eq content (codes "PT_GNU_SFRAME") then Some 0x6474e554 else None))))))))))))

-- a number as an expression, if there is one
abbrev pub number_of : Option ℕ → Reader Expression
number_of None = Nothing
number_of (Some n) = Give (e.Number n)

-- the word of a type
unfoldable pub type_word : Reader Expression
type_word = do
  found ← word
  number_of (type_number found.content)

-- an expression
unfoldable pub type_expression : Dialect → Reader Expression
type_expression dialect = do
  x ← expression dialect
  gap
  Give x

-- the word of a type where `PT_` is ahead, and else an expression
unfoldable pub header_type : Dialect → Reader Expression
header_type dialect = Choice (begins_with (codes "PT_")) type_word (type_expression dialect)

-- ---- clauses

-- after FLAGS: an expression in brackets
unfoldable pub flags_clause : Dialect → Phdr → Reader Phdr
flags_clause dialect header = do
  keyword (codes "FLAGS")
  byte 40
  x ← expression dialect
  symbol 41
  Give (record { name = header.name; ptype = header.ptype; flags = Some x; has_filehdr = header.has_filehdr; has_phdrs = header.has_phdrs })

-- it holds the header of the file
unfoldable pub filehdr_clause : Phdr → Reader Phdr
filehdr_clause header = do
  keyword (codes "FILEHDR")
  Give (record { name = header.name; ptype = header.ptype; flags = header.flags; has_filehdr = true; has_phdrs = header.has_phdrs })

-- it holds the program headers
unfoldable pub phdrs_clause : Phdr → Reader Phdr
phdrs_clause header = do
  keyword (codes "PHDRS")
  Give (record { name = header.name; ptype = header.ptype; flags = header.flags; has_filehdr = header.has_filehdr; has_phdrs = true })

-- no clause is ahead
unfoldable pub ends_clauses : Bytes → ℕ → Bool
ends_clauses b i = not (begins_with (codes "FLAGS") b i || begins_with (codes "FILEHDR") b i || begins_with (codes "PHDRS") b i)

-- one clause more
unfoldable pub clause : Dialect → Phdr → Reader Phdr
clause dialect header =
    Choice (begins_with (codes "FLAGS")) (flags_clause dialect header)
    (Choice (begins_with (codes "FILEHDR")) (filehdr_clause header) (phdrs_clause header))

-- the header with all of its clauses: the last FLAGS counts
unfoldable pub clauses : Dialect → Phdr → Reader Phdr
clauses dialect = Folds ends_clauses (clause dialect)

-- ---- headers

-- a header without clauses
abbrev pub bare_header : List ℕ → Expression → Phdr
bare_header title ptype = record { name = title; ptype = ptype; flags = None; has_filehdr = false; has_phdrs = false }

-- a name, a type and clauses; a semicolon or none
unfoldable pub header : Dialect → Reader Phdr
header dialect = do
  title ← name
  ptype ← header_type dialect
  whole ← clauses dialect (bare_header title ptype)
  optional_symbol 59
  Give whole

-- headers up to a brace
unfoldable pub headers : Dialect → Reader (List Phdr)
headers dialect = Until (begins 125) (header dialect)

-- after PHDRS: headers in braces
unfoldable pub phdrs_command : Dialect → Reader Command
phdrs_command dialect = do
  symbol 123
  all ← headers dialect
  symbol 125
  Give (variant.Phdrs all)
