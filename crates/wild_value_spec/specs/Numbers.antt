-- What the operators make of numbers of 64 bits.
use Rattle.std.specs.Prelude.{ℕ, ◌+◌, ◌-◌, ◌*◌, ◌/◌, ◌%◌, ◌^◌, min, max, bit_and, bit_or, bit_xor, Bool, true, false, not, ◌==◌, nat_le, nat_lt, int_div, int_rem}
use Rattle.std.specs.Int.{w64, cast_signed, cast_unsigned}
use Rattle.wild_expression_tree.specs.declared.operator.Arithmetic.{Arithmetic}
use Rattle.wild_expression_tree.specs.declared.operator.Arithmetic.TheVariants.{Add, Subtract, Multiply, BitwiseAnd, BitwiseOr, BitwiseXor, LeftShift, RightShift, Min, Max}
use Rattle.wild_expression_tree.specs.declared.operator.Comparison.{Comparison}
use Rattle.wild_expression_tree.specs.declared.operator.Comparison.TheVariants.{LessEqual, GreaterEqual, Equal, NotEqual, LessThan, GreaterThan}
use Rattle.wild_expression_tree.specs.declared.operator.Connective.{Connective}
use Rattle.wild_expression_tree.specs.declared.operator.Connective.TheVariants.{LogicalAnd, LogicalOr}
use Rattle.wild_expression_tree.specs.declared.operator.Division.{Division}
use Rattle.wild_expression_tree.specs.declared.operator.Division.TheVariants.{Divide, Modulo}
use Rattle.wild_expression_tree.specs.declared.operator.Unary.{Unary}
use Rattle.wild_expression_tree.specs.declared.operator.Unary.TheVariants.{LogicalNot, BitwiseNot, Negate}

-- sums, differences and products wrap; a shift is by the right side modulo 64, and drops what it moves out
unfoldable pub arithmetic_result : Arithmetic → ℕ → ℕ → ℕ
arithmetic_result Add x y = (x + y) % 2 ^ 64
arithmetic_result Subtract x y = (x + (2 ^ 64 - y)) % 2 ^ 64
arithmetic_result Multiply x y = (x * y) % 2 ^ 64
arithmetic_result BitwiseAnd x y = bit_and x y
arithmetic_result BitwiseOr x y = bit_or x y
arithmetic_result BitwiseXor x y = bit_xor x y
arithmetic_result LeftShift x y = (x * 2 ^ (y % 64)) % 2 ^ 64
arithmetic_result RightShift x y = x / 2 ^ (y % 64)
arithmetic_result Min x y = min x y
arithmetic_result Max x y = max x y

-- both sides read as signed numbers, the bits of the quotient toward zero; that of the least number and -1 would be
-- 2 ^ 63, whose bits are those of the least number
unfoldable pub quotient : ℕ → ℕ → ℕ
quotient x y = cast_unsigned w64 (int_div (cast_signed w64 x) (cast_signed w64 y))

-- the bits of the remainder, which has the sign of the left side
unfoldable pub remainder : ℕ → ℕ → ℕ
remainder x y = cast_unsigned w64 (int_rem (cast_signed w64 x) (cast_signed w64 y))

-- the quotient or the remainder
abbrev pub divided_by : Division → ℕ → ℕ → ℕ
divided_by Divide x y = quotient x y
divided_by Modulo x y = remainder x y

-- a truth as a number
abbrev pub truth : Bool → ℕ
truth true = 1
truth false = 0

-- a number is true where it is not 0
abbrev pub is_true : ℕ → Bool
is_true x = not (x == 0)

-- numbers are compared without a sign
unfoldable pub holds : Comparison → ℕ → ℕ → Bool
holds LessEqual x y = nat_le x y
holds GreaterEqual x y = nat_le y x
holds Equal x y = x == y
holds NotEqual x y = not (x == y)
holds LessThan x y = nat_lt x y
holds GreaterThan x y = nat_lt y x

-- whether the left side decides alone: `&&` where it is false, `||` where it is true
unfoldable pub decides : Connective → ℕ → Bool
decides LogicalAnd x = not (is_true x)
decides LogicalOr x = is_true x

-- what gives 0 with this number, wrapping
abbrev pub negation : ℕ → ℕ
negation x = (2 ^ 64 - x) % 2 ^ 64

-- the other bits
abbrev pub complement : ℕ → ℕ
complement x = 2 ^ 64 - 1 - x

-- `!`, `~` and `-`
unfoldable pub unary_result : Unary → ℕ → ℕ
unary_result LogicalNot x = truth (not (is_true x))
unary_result BitwiseNot x = complement x
unary_result Negate x = negation x
