-- The number of a constant: an expression of numbers and operators alone.
use Rattle.std.specs.Prelude.{ℕ, ◌==◌, if◌then◌else◌, Result, Ok, Err}
use Rattle.wild_value_spec.specs.declared.constant.ConstFault.{ConstFault}
use Rattle.wild_value_spec.specs.declared.constant.ConstFault.TheVariants.{NotConstant, DivisionByZero, ModuloByZero}
use Rattle.wild_expression_tree.specs.declared.tree.Expression.{Expression}
use Rattle.wild_expression_tree.specs.Shape.{Shape, Number, Ternary, fold}
use Rattle.wild_expression_tree.specs.declared.operator.Arithmetic.{Arithmetic}
use Rattle.wild_expression_tree.specs.declared.operator.Comparison.{Comparison}
use Rattle.wild_expression_tree.specs.declared.operator.Connective.{Connective}
use Rattle.wild_expression_tree.specs.declared.operator.Division.{Division}
use Rattle.wild_expression_tree.specs.declared.operator.Division.TheVariants as division
use Rattle.wild_expression_tree.specs.declared.operator.Unary.{Unary}
use Rattle.wild_value_spec.specs.Answer.{◌>>=◌}
use Rattle.wild_value_spec.specs.Numbers.{arithmetic_result, divided_by, holds, decides, unary_result, truth, is_true}

-- a number, or the first fault
abbrev pub Constant : Type 0
Constant = Result ℕ ConstFault

-- the fault of a divisor that is 0
abbrev pub zero_divisor : Division → ConstFault
zero_divisor division.Divide = DivisionByZero
zero_divisor division.Modulo = ModuloByZero

-- its number; what has none is refused before
abbrev pub number_in : Constant → ℕ
number_in (Ok n) = n
number_in (Err f) = 0

-- ---- nodes over what their parts are, of which only those count that the word asks for

-- both sides, the left one first
unfoldable pub arithmetic_value : Arithmetic → Constant → Constant → Constant
arithmetic_value o a b = a >>= (λ x. b >>= (λ y. Ok (arithmetic_result o x y)))

-- the divisor first, which must not be 0
unfoldable pub division_value : Division → Constant → Constant → Constant
division_value o a b = b >>= (λ y. if y == 0 then Err (zero_divisor o) else (a >>= (λ x. Ok (divided_by o x y))))

-- 1 where it holds, else 0
unfoldable pub comparison_value : Comparison → Constant → Constant → Constant
comparison_value o a b = a >>= (λ x. b >>= (λ y. Ok (truth (holds o x y))))

-- the right side only where the left one does not decide
unfoldable pub connective_value : Connective → Constant → Constant → Constant
connective_value o a b = a >>= (λ x. if decides o x then Ok (truth (is_true x)) else (b >>= (λ y. Ok (truth (is_true y)))))

-- `!`, `~` and `-`
unfoldable pub unary_value : Unary → Constant → Constant
unary_value o a = a >>= (λ x. Ok (unary_result o x))

-- the condition, and then the chosen side only
unfoldable pub ternary_value : Constant → Constant → Constant → Constant
ternary_value c a b = c >>= (λ x. if x == 0 then b else a)

-- ---- trees

-- a node, over what its parts are
abbrev pub constant : Shape Constant → Constant
constant (Number n) = Ok n
constant (Shape.Arithmetic o a b) = arithmetic_value o a b
constant (Shape.Division o a b) = division_value o a b
constant (Shape.Comparison o a b) = comparison_value o a b
constant (Shape.Connective o a b) = connective_value o a b
constant (Shape.Unary o a) = unary_value o a
constant (Ternary c a b) = ternary_value c a b
constant s = Err NotConstant

-- the number of an expression, or the first fault; what is not evaluated doesn't count
abbrev pub const : Expression → Constant
const = fold constant
