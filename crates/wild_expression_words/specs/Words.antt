-- What an expression without operators begins with: a number, a name, or what is before a bracket.
use Rattle.std.specs.Prelude.{ℕ, Bool, if◌then◌else◌, List, Option, Some, None, codes}
use Rattle.std.specs.Str.{bytes_eq}
use Rattle.wild_reading.specs.Bytes.{begins}
use Rattle.wild_reading.specs.Reader.{Reader, ◌>>=◌, ◌>>◌, Give, Nothing, Choice, If}
use Rattle.wild_expression_words.specs.Dialect.{Dialect}
use Rattle.wild_expression_words.specs.Identifier.{identifier, begins_digit}
use Rattle.wild_expression_words.specs.Literal.{literal}
use Rattle.wild_expression_tree.specs.declared.tree.Expression.{Expression}
use Rattle.wild_expression_tree.specs.declared.tree.Expression.TheVariants as e
use Rattle.wild_expression_tree.specs.declared.operator.Question.TheVariants as q
use Rattle.wild_expression_words.specs.declared.words.Extreme.TheVariants.{Min, Max}
use Rattle.wild_expression_words.specs.declared.words.Call.{Call}
use Rattle.wild_expression_words.specs.declared.words.Call.TheVariants as c
use Rattle.wild_expression_words.specs.declared.words.Head.{Head}
use Rattle.wild_expression_words.specs.declared.words.Head.TheVariants as h

-- a number
unfoldable pub number : Dialect → Reader Head
number dialect = do
  n ← literal
  dialect.between
  Give (h.Whole (e.Number n))

-- the call with a word, whose bracket is ahead
abbrev pub call_of : List ℕ → Option Call
call_of w =
    if bytes_eq w (codes "SIZEOF") then Some (c.Name q.Sizeof) else (
    if bytes_eq w (codes "ALIGNOF") then Some (c.Name q.Alignof) else (
    if bytes_eq w (codes "ADDR") then Some (c.Name q.Addr) else (
    if bytes_eq w (codes "LOADADDR") then Some (c.Name q.Loadaddr) else (
    if bytes_eq w (codes "ORIGIN") then Some (c.Name q.Origin) else (
    if bytes_eq w (codes "LENGTH") then Some (c.Name q.Length) else (
    if bytes_eq w (codes "DEFINED") then Some (c.Name q.Defined) else (
    if bytes_eq w (codes "ALIGN") then Some c.Align else (
    if bytes_eq w (codes "MIN") then Some (c.Pair Min) else (
    if bytes_eq w (codes "MAX") then Some (c.Pair Max) else (
    if bytes_eq w (codes "SEGMENT_START") then Some c.SegmentStart else (
    if bytes_eq w (codes "ASSERT") then Some c.Assert else None)))))))))))

-- what is before the bracket, if such calls are known
abbrev pub known_call : Option Call → Reader Head
known_call None = Nothing
known_call (Some call) = Give (h.Before call)

-- the call with a word
unfoldable pub word_call : List ℕ → Reader Head
word_call w = known_call (call_of w)

-- what a word alone is
abbrev pub name_node : List ℕ → Expression
name_node w = if bytes_eq w (codes "SIZEOF_HEADERS") then e.SizeofHeaders else e.Symbol w

-- a word alone
unfoldable pub lone_name : List ℕ → Reader Head
lone_name w = Give (h.Whole (name_node w))

-- a call where a bracket is ahead
unfoldable pub name_or_call : List ℕ → Reader Head
name_or_call w = Choice (begins 40) (word_call w) (lone_name w)

-- what is read after a name
unfoldable pub name_tail : Dialect → List ℕ → Reader Head
name_tail dialect w = do
  dialect.between
  name_or_call w

-- what is read after `.`
unfoldable pub counter : Dialect → Reader Head
counter dialect = do
  dialect.between
  Give (h.Whole e.LocationCounter)

-- `.`
unfoldable pub is_counter : List ℕ → Bool
is_counter w = bytes_eq w (codes ".")

-- what is read after an identifier
unfoldable pub word_tail : Dialect → List ℕ → Reader Head
word_tail dialect w = If (is_counter w) (counter dialect) (name_tail dialect w)

-- an identifier, and what is read after it
unfoldable pub word : Dialect → Reader Head
word dialect = do
  w ← identifier
  word_tail dialect w.content

-- nothing is before the bracket
unfoldable pub bracket : Reader Head
bracket = Give (h.Before c.Brackets)

-- a number where a digit is ahead
unfoldable pub number_or_word : Dialect → Reader Head
number_or_word dialect = Choice begins_digit (number dialect) (word dialect)

-- an expression with none inside and the white after it, or what is before the bracket ahead
unfoldable pub head : Dialect → Reader Head
head dialect = Choice (begins 40) bracket (number_or_word dialect)

-- how many bytes it takes at least: there may be nothing before a bracket
abbrev pub byte_count : Head → ℕ
byte_count (h.Whole x) = 1
byte_count (h.Before call) = 0
