-- The grammar of expressions, and how deep each is.
use Rattle.std.specs.Prelude.{ℕ, ◌+◌, ◌≤◌, max, List, Some, None}
use Rattle.wild_reading.specs.Position.{Position, IsPaid}
use Rattle.wild_reading.specs.Bytes.{begins}
use Rattle.wild_reading.specs.Reader.{Reader, ◌>>=◌, ◌>>◌, Give, here, Choice}
use Rattle.wild_reading.specs.Lex.{byte, gap, symbol, name}
use Rattle.wild_reading.specs.Family.{InsideAt, room, Folds}
use Rattle.wild_expression_words.specs.Quotes.{quoted_name}
use Rattle.wild_expression_words.specs.Identifier.{identifier}
use Rattle.wild_expression_words.specs.Operators.{operand, operator, ends, node, sign, is_signed, signed_node}
use Rattle.wild_expression_words.specs.Dialect.{Dialect, first_grammar}
use Rattle.wild_expression_words.specs.Words.{head}
use Rattle.wild_expression_tree.specs.declared.tree.Expression.{Expression}
use Rattle.wild_expression_tree.specs.declared.tree.Expression.TheVariants as e
use Rattle.wild_names.specs.SegmentNames.{segment_of}
use Rattle.wild_expression_words.specs.declared.operators.Level.{Level}
use Rattle.wild_expression_words.specs.declared.operators.Level.TheVariants as l
use Rattle.wild_expression_words.specs.declared.operators.Operator.{Operator}
use Rattle.wild_expression_tree.specs.declared.operator.Unary.{Unary}
use Rattle.wild_expression_tree.specs.declared.operator.Question.{Question}
use Rattle.wild_expression_tree.specs.declared.operator.Question.TheVariants as q
use Rattle.wild_expression_words.specs.declared.words.Extreme.{Extreme}
use Rattle.wild_expression_words.specs.declared.words.Extreme.TheVariants.{Min, Max}
use Rattle.wild_expression_words.specs.declared.words.Call.{Call}
use Rattle.wild_expression_words.specs.declared.words.Call.TheVariants as c
use Rattle.wild_expression_words.specs.declared.words.Head.{Head}
use Rattle.wild_expression_words.specs.declared.words.Head.TheVariants as h
use Rattle.wild_expression.specs.declared.measured.Measured.{Measured}

-- ---- trees with their depths

-- an operator over two operands
abbrev pub binary_tree : Operator → Measured → Measured → Measured
binary_tree op x y = record { expression = node op x.expression y.expression; depth = max x.depth y.depth + 1 }

-- a condition, and what is chosen by it
abbrev pub ternary_tree : Measured → Measured → Measured → Measured
ternary_tree x y z = record { expression = e.Ternary x.expression y.expression z.expression; depth = max x.depth (max y.depth z.depth) + 1 }

-- a sign before an operand
abbrev pub unary_tree : Unary → Measured → Measured
unary_tree s x = record { expression = signed_node s x.expression; depth = x.depth + 1 }

-- an expression in brackets: the tree forgets them
abbrev pub bracket_tree : Measured → Measured
bracket_tree x = record { expression = x.expression; depth = x.depth + 1 }

-- the smaller or the greater of two
abbrev pub extreme_node : Extreme → Expression → Expression → Expression
extreme_node Min x y = e.Min x y
extreme_node Max x y = e.Max x y

-- with its depth
abbrev pub extreme_tree : Extreme → Measured → Measured → Measured
extreme_tree extreme x y = record { expression = extreme_node extreme x.expression y.expression; depth = max x.depth y.depth + 1 }

-- the location counter, aligned
abbrev pub align_counter_tree : Measured → Measured
align_counter_tree x = record { expression = e.Align x.expression None; depth = x.depth + 1 }

-- the value, then the alignment
abbrev pub align_value_tree : Measured → Measured → Measured
align_value_tree x y = record { expression = e.Align y.expression (Some x.expression); depth = max x.depth y.depth + 1 }

-- the start of a segment, or a value
abbrev pub segment_start_tree : List ℕ → Measured → Measured
segment_start_tree w x = record { expression = e.SegmentStart (segment_of w) x.expression; depth = x.depth + 1 }

-- a condition that must hold, whose bracket is at the position
abbrev pub assert_tree : ℕ → Measured → List ℕ → Measured
assert_tree at x message = record { expression = e.Assert (record { expression = x.expression; message = message; at = at }); depth = x.depth + 1 }

-- a call over a name
abbrev pub question_node : Question → List ℕ → Expression
question_node q.Sizeof w = e.Sizeof w
question_node q.Alignof w = e.Alignof w
question_node q.Addr w = e.Addr w
question_node q.Loadaddr w = e.Loadaddr w
question_node q.Origin w = e.Origin w
question_node q.Length w = e.Length w
question_node q.Defined w = e.Defined w

-- with its depth
abbrev pub question_tree : Question → List ℕ → Measured
question_tree question w = record { expression = question_node question w; depth = 1 }

-- an expression with none inside
abbrev pub leaf_tree : Expression → Measured
leaf_tree x = record { expression = x; depth = 0 }

-- the depth is paid by marks, if there is any
pub record IsCovered (depth : ℕ) (s : Position) : Type 0 where
  pub paid : 1 ≤ depth → IsPaid depth s

-- ---- brackets and calls, from what is read one deeper

-- readers of expressions, by their level
abbrev pub Values : Type 1
Values = Level → Reader Measured

-- a bracket that closes, and what is passed after it
unfoldable pub close : Dialect → Reader (Unit {0})
close dialect = do
  byte 41
  dialect.between

-- an identifier in brackets
unfoldable pub question : Dialect → Question → Reader Measured
question dialect asks = do
  byte 40
  room 0
  dialect.between
  w ← identifier
  dialect.between
  close dialect
  Give (question_tree asks w.content)

-- an expression in brackets
unfoldable pub brackets_of : Dialect → Values → Reader Measured
brackets_of dialect inner = do
  byte 40
  x ← inner l.Ternary
  close dialect
  Give (bracket_tree x)

-- two, with a comma
unfoldable pub pair_of : Dialect → Values → Extreme → Reader Measured
pair_of dialect inner extreme = do
  byte 40
  x ← inner l.Ternary
  byte 44
  y ← inner l.Ternary
  close dialect
  Give (extreme_tree extreme x y)

-- no comma: what was read is the alignment
unfoldable pub align_counter : Dialect → Measured → Reader Measured
align_counter dialect x = do
  close dialect
  Give (align_counter_tree x)

-- a comma: what was read is the value
unfoldable pub align_value_of : Dialect → Values → Measured → Reader Measured
align_value_of dialect inner x = do
  byte 44
  y ← inner l.Ternary
  close dialect
  Give (align_value_tree x y)

-- a comma or none, and the bracket that closes
unfoldable pub align_rest_of : Dialect → Values → Measured → Reader Measured
align_rest_of dialect inner x = Choice (begins 44) (align_value_of dialect inner x) (align_counter dialect x)

-- an alignment, or a value, a comma and an alignment
unfoldable pub align_of : Dialect → Values → Reader Measured
align_of dialect inner = do
  byte 40
  x ← inner l.Ternary
  align_rest_of dialect inner x

-- a quoted name, a comma and an expression
unfoldable pub segment_start_of : Dialect → Values → Reader Measured
segment_start_of dialect inner = do
  byte 40
  dialect.between
  w ← quoted_name
  dialect.between
  byte 44
  x ← inner l.Ternary
  close dialect
  Give (segment_start_tree w.content x)

-- an expression, a comma and a message, with gaps between them
unfoldable pub assert_of : Values → Reader Measured
assert_of inner = do
  at ← here
  symbol 40
  x ← inner l.Ternary
  gap
  symbol 44
  message ← name
  symbol 41
  Give (assert_tree at x message)

-- the brackets of a call
unfoldable pub arguments_of : Dialect → Values → Call → Reader Measured
arguments_of dialect inner c.Brackets = brackets_of dialect inner
arguments_of dialect inner (c.Name asks) = question dialect asks
arguments_of dialect inner c.Align = align_of dialect inner
arguments_of dialect inner (c.Pair extreme) = pair_of dialect inner extreme
arguments_of dialect inner c.SegmentStart = segment_start_of dialect inner
arguments_of dialect inner c.Assert = assert_of inner

-- what is read after a head
unfoldable pub after_head_of : Dialect → Values → Head → Reader Measured
after_head_of dialect inner (h.Whole x) = Give (leaf_tree x)
after_head_of dialect inner (h.Before call) = arguments_of dialect inner call

-- what has no operator
unfoldable pub primary_of : Dialect → Values → Reader Measured
primary_of dialect inner = do
  begin ← head dialect
  after_head_of dialect inner begin

-- ---- signs

-- a sign, and its operand
unfoldable pub unary_of : Values → Reader Measured
unary_of inner = do
  s ← sign
  x ← inner l.Sign
  Give (unary_tree s x)

-- a sign where one is ahead
unfoldable pub unary_or_primary_of : Dialect → Values → Reader Measured
unary_or_primary_of dialect inner = Choice is_signed (unary_of inner) (primary_of dialect inner)

-- signs, as many as there are, and what has no operator
unfoldable pub sign_of : Dialect → Values → Reader Measured
sign_of dialect inner = do
  dialect.between
  unary_or_primary_of dialect inner

-- ---- operators

-- an operator of the level and its right operand, after the left one
unfoldable pub step_of : Values → Level → Measured → Reader Measured
step_of inner level x = do
  op ← operator level
  room x.depth
  y ← inner (operand level)
  Give (binary_tree op x y)

-- steps as long as an operator of the level is ahead, grouped to the left
unfoldable pub chain_of : Values → Level → Measured → Reader Measured
chain_of inner level x = Folds (ends level) (step_of inner level) x

-- what was read before, and no operator
unfoldable pub alone : Measured → Reader Measured
alone x = Give x

-- one step at most
unfoldable pub comparison_of : Values → Measured → Reader Measured
comparison_of inner x = Choice (ends l.Comparison) (alone x) (step_of inner l.Comparison x)

-- `?`, a value, `:` and a value
unfoldable pub alternatives_of : Values → Measured → Reader Measured
alternatives_of inner x = do
  byte 63
  room x.depth
  y ← inner l.Ternary
  byte 58
  z ← inner l.Ternary
  Give (ternary_tree x y z)

-- `?` and `:` at most once
unfoldable pub ternary_of : Values → Measured → Reader Measured
ternary_of inner x = Choice (begins 63) (alternatives_of inner x) (alone x)

-- what the operators of the level make of what was read before them
unfoldable pub rest_of : Values → Level → Measured → Reader Measured
rest_of inner l.Ternary x = ternary_of inner x
rest_of inner l.LogicalOr x = chain_of inner l.LogicalOr x
rest_of inner l.LogicalAnd x = chain_of inner l.LogicalAnd x
rest_of inner l.Comparison x = comparison_of inner x
rest_of inner l.BitwiseOr x = chain_of inner l.BitwiseOr x
rest_of inner l.BitwiseXor x = chain_of inner l.BitwiseXor x
rest_of inner l.BitwiseAnd x = chain_of inner l.BitwiseAnd x
rest_of inner l.Shift x = chain_of inner l.Shift x
rest_of inner l.Sum x = chain_of inner l.Sum x
rest_of inner l.Product x = chain_of inner l.Product x
rest_of inner l.Sign x = alone x

-- ---- levels, the tightest first

-- a first operand, and the operators of the level after it
unfoldable pub layer_of : Values → Level → Reader Measured → Reader Measured
layer_of inner level first = do
  x ← first
  rest_of inner level x

-- `*`, `/` and `%`
unfoldable pub product_of : Dialect → Values → Reader Measured
product_of dialect inner = layer_of inner l.Product (sign_of dialect inner)

-- `+` and `-`
unfoldable pub sum_of : Dialect → Values → Reader Measured
sum_of dialect inner = layer_of inner l.Sum (product_of dialect inner)

-- `<<` and `>>`
unfoldable pub shift_of : Dialect → Values → Reader Measured
shift_of dialect inner = layer_of inner l.Shift (sum_of dialect inner)

-- `&`
unfoldable pub bitwise_and_of : Dialect → Values → Reader Measured
bitwise_and_of dialect inner = layer_of inner l.BitwiseAnd (shift_of dialect inner)

-- `^`
unfoldable pub bitwise_xor_of : Dialect → Values → Reader Measured
bitwise_xor_of dialect inner = layer_of inner l.BitwiseXor (bitwise_and_of dialect inner)

-- `|`
unfoldable pub bitwise_or_of : Dialect → Values → Reader Measured
bitwise_or_of dialect inner = layer_of inner l.BitwiseOr (bitwise_xor_of dialect inner)

-- comparisons
unfoldable pub comparison_level_of : Dialect → Values → Reader Measured
comparison_level_of dialect inner = layer_of inner l.Comparison (bitwise_or_of dialect inner)

-- `&&`
unfoldable pub logical_and_of : Dialect → Values → Reader Measured
logical_and_of dialect inner = layer_of inner l.LogicalAnd (comparison_level_of dialect inner)

-- `||`
unfoldable pub logical_or_of : Dialect → Values → Reader Measured
logical_or_of dialect inner = layer_of inner l.LogicalOr (logical_and_of dialect inner)

-- `?`
unfoldable pub whole_of : Dialect → Values → Reader Measured
whole_of dialect inner = layer_of inner l.Ternary (logical_or_of dialect inner)

-- an expression of a level
unfoldable pub value_of : Dialect → Values → Level → Reader Measured
value_of dialect inner l.Ternary = whole_of dialect inner
value_of dialect inner l.LogicalOr = logical_or_of dialect inner
value_of dialect inner l.LogicalAnd = logical_and_of dialect inner
value_of dialect inner l.Comparison = comparison_level_of dialect inner
value_of dialect inner l.BitwiseOr = bitwise_or_of dialect inner
value_of dialect inner l.BitwiseXor = bitwise_xor_of dialect inner
value_of dialect inner l.BitwiseAnd = bitwise_and_of dialect inner
value_of dialect inner l.Shift = shift_of dialect inner
value_of dialect inner l.Sum = sum_of dialect inner
value_of dialect inner l.Product = product_of dialect inner
value_of dialect inner l.Sign = sign_of dialect inner

-- ---- the knot: what is read one deeper is read in the same way

-- an expression of a level, one deeper
unfoldable pub inner_by : Dialect → Values
inner_by dialect level = InsideAt (value_of dialect) level

-- an expression of a level
unfoldable pub value_by : Dialect → Values
value_by dialect level = value_of dialect (InsideAt (value_of dialect)) level

-- ---- each word from here on is the one above, in the first grammar

-- see `inner_by`
unfoldable pub inner_value : Values
inner_value level = InsideAt (value_of first_grammar) level

-- see `value_by`
unfoldable pub value : Values
value level = value_of first_grammar (InsideAt (value_of first_grammar)) level

-- see `brackets_of`
unfoldable pub brackets : Reader Measured
brackets = brackets_of first_grammar inner_value

-- see `pair_of`
unfoldable pub pair : Extreme → Reader Measured
pair extreme = pair_of first_grammar inner_value extreme

-- see `align_value_of`
unfoldable pub align_value : Measured → Reader Measured
align_value x = align_value_of first_grammar inner_value x

-- see `align_rest_of`
unfoldable pub align_rest : Measured → Reader Measured
align_rest x = align_rest_of first_grammar inner_value x

-- see `align_of`
unfoldable pub align : Reader Measured
align = align_of first_grammar inner_value

-- see `segment_start_of`
unfoldable pub segment_start : Reader Measured
segment_start = segment_start_of first_grammar inner_value

-- see `assert_of`
unfoldable pub assert : Reader Measured
assert = assert_of inner_value

-- see `arguments_of`
unfoldable pub arguments : Call → Reader Measured
arguments call = arguments_of first_grammar inner_value call

-- see `after_head_of`
unfoldable pub after_head : Head → Reader Measured
after_head begin = after_head_of first_grammar inner_value begin

-- see `primary_of`
unfoldable pub primary : Reader Measured
primary = primary_of first_grammar inner_value

-- see `unary_of`
unfoldable pub unary : Reader Measured
unary = unary_of inner_value

-- see `unary_or_primary_of`
unfoldable pub unary_or_primary : Reader Measured
unary_or_primary = unary_or_primary_of first_grammar inner_value

-- see `sign_of`
unfoldable pub sign_level : Reader Measured
sign_level = sign_of first_grammar inner_value

-- see `step_of`
unfoldable pub step : Level → Measured → Reader Measured
step level x = step_of inner_value level x

-- see `chain_of`
unfoldable pub chain : Level → Measured → Reader Measured
chain level x = Folds (ends level) (step level) x

-- see `comparison_of`
unfoldable pub comparison : Measured → Reader Measured
comparison x = comparison_of inner_value x

-- see `alternatives_of`
unfoldable pub alternatives : Measured → Reader Measured
alternatives x = alternatives_of inner_value x

-- see `ternary_of`
unfoldable pub ternary : Measured → Reader Measured
ternary x = ternary_of inner_value x

-- see `rest_of`
unfoldable pub rest : Level → Measured → Reader Measured
rest level x = rest_of inner_value level x

-- see `layer_of`
unfoldable pub layer : Level → Reader Measured
layer level = do
  x ← value (operand level)
  rest level x
