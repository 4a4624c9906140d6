-- The levels of expressions, their operators and signs.
use Rattle.std.specs.Prelude.{ℕ, ◌+◌, Bool, true, false, not, ◌&&◌, ◌==◌, if◌then◌else◌, Option, Some, None, slice_get}
use Rattle.wild_reading.specs.Position.{Bytes}
use Rattle.wild_reading.specs.Bytes.{is_byte}
use Rattle.wild_reading.specs.Reader.{Reader, Takes}
use Rattle.wild_expression_tree.specs.declared.tree.Expression.{Expression}
use Rattle.wild_expression_tree.specs.declared.tree.Expression.TheVariants as e
use Rattle.wild_expression_words.specs.declared.operators.Level.{Level}
use Rattle.wild_expression_words.specs.declared.operators.Level.TheVariants as l
use Rattle.wild_expression_words.specs.declared.operators.Operator.{Operator}
use Rattle.wild_expression_words.specs.declared.operators.Operator.TheVariants as o
use Rattle.wild_expression_tree.specs.declared.operator.Unary.{Unary}
use Rattle.wild_expression_tree.specs.declared.operator.Unary.TheVariants as s

-- the level of the operands
abbrev pub operand : Level → Level
operand l.Ternary = l.LogicalOr
operand l.LogicalOr = l.LogicalAnd
operand l.LogicalAnd = l.Comparison
operand l.Comparison = l.BitwiseOr
operand l.BitwiseOr = l.BitwiseXor
operand l.BitwiseXor = l.BitwiseAnd
operand l.BitwiseAnd = l.Shift
operand l.Shift = l.Sum
operand l.Sum = l.Product
operand l.Product = l.Sign
operand l.Sign = l.Sign

-- whether the level has operators between operands
abbrev pub is_layer : Level → Bool
is_layer l.Ternary = true
is_layer l.LogicalOr = true
is_layer l.LogicalAnd = true
is_layer l.Comparison = true
is_layer l.BitwiseOr = true
is_layer l.BitwiseXor = true
is_layer l.BitwiseAnd = true
is_layer l.Shift = true
is_layer l.Sum = true
is_layer l.Product = true
is_layer l.Sign = false

-- whether they make chains, grouped to the left
abbrev pub is_chain : Level → Bool
is_chain l.Ternary = false
is_chain l.LogicalOr = true
is_chain l.LogicalAnd = true
is_chain l.Comparison = false
is_chain l.BitwiseOr = true
is_chain l.BitwiseXor = true
is_chain l.BitwiseAnd = true
is_chain l.Shift = true
is_chain l.Sum = true
is_chain l.Product = true
is_chain l.Sign = false

-- ---- operators

-- the operator of a level that begins with two bytes
abbrev pub operator_of : Level → ℕ → Option ℕ → Option Operator
operator_of l.Ternary c d = None
operator_of l.LogicalOr c d = if c == 124 && is_byte 124 d then Some o.LogicalOr else None
operator_of l.LogicalAnd c d = if c == 38 && is_byte 38 d then Some o.LogicalAnd else None
operator_of l.Comparison c d =
    if c == 60 && is_byte 61 d then Some o.LessEqual else (
    if c == 62 && is_byte 61 d then Some o.GreaterEqual else (
    if c == 61 && is_byte 61 d then Some o.Equal else (
    if c == 33 && is_byte 61 d then Some o.NotEqual else (
    if c == 60 then Some o.LessThan else (
    if c == 62 then Some o.GreaterThan else None)))))
operator_of l.BitwiseOr c d = if c == 124 && not (is_byte 124 d) then Some o.BitwiseOr else None
operator_of l.BitwiseXor c d = if c == 94 then Some o.BitwiseXor else None
operator_of l.BitwiseAnd c d = if c == 38 && not (is_byte 38 d) then Some o.BitwiseAnd else None
operator_of l.Shift c d = if c == 60 && is_byte 60 d then Some o.LeftShift else (if c == 62 && is_byte 62 d then Some o.RightShift else None)
operator_of l.Sum c d = if c == 43 then Some o.Add else (if c == 45 then Some o.Subtract else None)
operator_of l.Product c d = if c == 42 then Some o.Multiply else (if c == 47 then Some o.Divide else (if c == 37 then Some o.Modulo else None))
operator_of l.Sign c d = None

-- the same, where the first may be missing
abbrev pub operator_from : Level → Option ℕ → Option ℕ → Option Operator
operator_from level None d = None
operator_from level (Some c) d = operator_of level c d

-- the operator of the level at a position
unfoldable pub operator_found : Level → Bytes → ℕ → Option Operator
operator_found level b i = operator_from level (slice_get b i) (slice_get b (i + 1))

-- how many bytes it takes
abbrev pub width : Operator → ℕ
width o.LogicalOr = 2
width o.LogicalAnd = 2
width o.LessEqual = 2
width o.GreaterEqual = 2
width o.Equal = 2
width o.NotEqual = 2
width o.LessThan = 1
width o.GreaterThan = 1
width o.BitwiseOr = 1
width o.BitwiseXor = 1
width o.BitwiseAnd = 1
width o.LeftShift = 2
width o.RightShift = 2
width o.Add = 1
width o.Subtract = 1
width o.Multiply = 1
width o.Divide = 1
width o.Modulo = 1

-- the first of them
abbrev pub first_byte : Operator → ℕ
first_byte o.LogicalOr = 124
first_byte o.LogicalAnd = 38
first_byte o.LessEqual = 60
first_byte o.GreaterEqual = 62
first_byte o.Equal = 61
first_byte o.NotEqual = 33
first_byte o.LessThan = 60
first_byte o.GreaterThan = 62
first_byte o.BitwiseOr = 124
first_byte o.BitwiseXor = 94
first_byte o.BitwiseAnd = 38
first_byte o.LeftShift = 60
first_byte o.RightShift = 62
first_byte o.Add = 43
first_byte o.Subtract = 45
first_byte o.Multiply = 42
first_byte o.Divide = 47
first_byte o.Modulo = 37

-- it, and the position after it
abbrev pub with_end : Option Operator → ℕ → Option (Operator × ℕ)
with_end None i = None
with_end (Some op) i = Some (op, i + width op)

-- the operator of the level at a position, and the position after it
unfoldable pub operator_at : Level → Bytes → ℕ → Option (Operator × ℕ)
operator_at level b i = with_end (operator_found level b i) i

-- an operator of the level
unfoldable pub operator : Level → Reader Operator
operator level = Takes (operator_at level)

-- there is none
abbrev pub is_missing : Option Operator → Bool
is_missing None = true
is_missing (Some op) = false

-- no operator of the level is ahead
unfoldable pub ends : Level → Bytes → ℕ → Bool
ends level b i = is_missing (operator_found level b i)

-- the node over two operands
abbrev pub node : Operator → Expression → Expression → Expression
node o.LogicalOr x y = e.LogicalOr x y
node o.LogicalAnd x y = e.LogicalAnd x y
node o.LessEqual x y = e.LessEqual x y
node o.GreaterEqual x y = e.GreaterEqual x y
node o.Equal x y = e.Equal x y
node o.NotEqual x y = e.NotEqual x y
node o.LessThan x y = e.LessThan x y
node o.GreaterThan x y = e.GreaterThan x y
node o.BitwiseOr x y = e.BitwiseOr x y
node o.BitwiseXor x y = e.BitwiseXor x y
node o.BitwiseAnd x y = e.BitwiseAnd x y
node o.LeftShift x y = e.LeftShift x y
node o.RightShift x y = e.RightShift x y
node o.Add x y = e.Add x y
node o.Subtract x y = e.Subtract x y
node o.Multiply x y = e.Multiply x y
node o.Divide x y = e.Divide x y
node o.Modulo x y = e.Modulo x y

-- ---- signs

-- the sign that begins with two bytes: `!` where no `=` follows, `~`, `-`
abbrev pub sign_of : Option ℕ → Option ℕ → Option Unary
sign_of None d = None
sign_of (Some c) d = if c == 33 && not (is_byte 61 d) then Some s.LogicalNot else (if c == 126 then Some s.BitwiseNot else (if c == 45 then Some s.Negate else None))

-- the sign at a position
unfoldable pub sign_found : Bytes → ℕ → Option Unary
sign_found b i = sign_of (slice_get b i) (slice_get b (i + 1))

-- the byte of a sign
abbrev pub sign_byte : Unary → ℕ
sign_byte s.LogicalNot = 33
sign_byte s.BitwiseNot = 126
sign_byte s.Negate = 45

-- it, and the position after it
abbrev pub sign_with_end : Option Unary → ℕ → Option (Unary × ℕ)
sign_with_end None i = None
sign_with_end (Some x) i = Some (x, i + 1)

-- the sign at a position, and the position after it
unfoldable pub sign_at : Bytes → ℕ → Option (Unary × ℕ)
sign_at b i = sign_with_end (sign_found b i) i

-- a sign
unfoldable pub sign : Reader Unary
sign = Takes sign_at

-- there is one
abbrev pub is_there : Option Unary → Bool
is_there None = false
is_there (Some x) = true

-- a sign is ahead
unfoldable pub is_signed : Bytes → ℕ → Bool
is_signed b i = is_there (sign_found b i)

-- the node over one operand
abbrev pub signed_node : Unary → Expression → Expression
signed_node s.LogicalNot x = e.LogicalNot x
signed_node s.BitwiseNot x = e.BitwiseNot x
signed_node s.Negate x = e.Negate x
