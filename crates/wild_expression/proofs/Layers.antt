-- The levels, one below the other.
use Rattle.std.proofs.Common.{◌≡◌, ◌≤◌, ℕ, ◌+◌, true, refl, sym, subst, Result, Ok, arith}
use Rattle.wild_reading.specs.Position.{Position}
use Rattle.wild_reading.specs.Only.{Answers}
use Rattle.wild_reading.specs.declared.stop.Stop.{Stop}
use Rattle.wild_reading.proofs.Readers.{answers_ok, give_only}
use Rattle.wild_expression_words.specs.declared.operators.Level.{Level}
use Rattle.wild_expression_words.specs.declared.operators.Level.TheVariants as l
use Rattle.wild_expression_words.specs.declared.words.Head.{Head}
use Rattle.wild_expression_words.specs.declared.words.Head.TheVariants as h
use Rattle.wild_expression_tree.specs.declared.tree.Expression.{Expression}
use Rattle.wild_expression.specs.declared.measured.Measured.{Measured}
use Rattle.wild_expression_words.specs.Operators.{operand, is_layer, is_chain}
use Rattle.wild_expression.specs.Grammar.{leaf_tree, after_head_of, chain_of, alone, rest_of, layer_of, product_of, sum_of, shift_of, bitwise_and_of, bitwise_xor_of, bitwise_or_of, comparison_level_of, logical_and_of, logical_or_of, whole_of, value_of, inner_value, value, after_head, sign_level, step, chain, comparison, ternary, rest, layer}

-- ---- a level's reader by what it is

module _ {s r : Position} {result : Result Measured Stop} where
  pub layer_answers : (level : Level) → is_layer level ≡ true → Answers (layer level) s r result → Answers (value level) s r result
  unfolding value value_of inner_value layer layer_of rest product_of sum_of shift_of bitwise_and_of bitwise_xor_of bitwise_or_of comparison_level_of logical_and_of logical_or_of whole_of
  layer_answers l.Ternary e a = a
  layer_answers l.LogicalOr e a = a
  layer_answers l.LogicalAnd e a = a
  layer_answers l.Comparison e a = a
  layer_answers l.BitwiseOr e a = a
  layer_answers l.BitwiseXor e a = a
  layer_answers l.BitwiseAnd e a = a
  layer_answers l.Shift e a = a
  layer_answers l.Sum e a = a
  layer_answers l.Product e a = a
  layer_answers l.Sign e a = cc

  from_sign : Answers sign_level s r result → Answers (value l.Sign) s r result
  unfolding value value_of sign_level inner_value
  from_sign a = a

  pub sign_answers : {level : Level} → level ≡ l.Sign → Answers sign_level s r result → Answers (value level) s r result
  sign_answers e a = subst (λ (k : Level). Answers (value k) s r result) (sym e) (from_sign a)

  -- what is read after a first operand

  pub chain_answers : (level : Level) (x : Measured) → is_chain level ≡ true → Answers (chain level x) s r result → Answers (rest level x) s r result
  unfolding rest rest_of chain chain_of step inner_value
  chain_answers l.Ternary x e a = cc
  chain_answers l.LogicalOr x e a = a
  chain_answers l.LogicalAnd x e a = a
  chain_answers l.Comparison x e a = cc
  chain_answers l.BitwiseOr x e a = a
  chain_answers l.BitwiseXor x e a = a
  chain_answers l.BitwiseAnd x e a = a
  chain_answers l.Shift x e a = a
  chain_answers l.Sum x e a = a
  chain_answers l.Product x e a = a
  chain_answers l.Sign x e a = cc

  from_ternary : (x : Measured) → Answers (ternary x) s r result → Answers (rest l.Ternary x) s r result
  unfolding rest rest_of ternary
  from_ternary x a = a

  pub ternary_answers : {level : Level} (x : Measured) → level ≡ l.Ternary → Answers (ternary x) s r result → Answers (rest level x) s r result
  ternary_answers x e a = subst (λ (k : Level). Answers (rest k x) s r result) (sym e) (from_ternary x a)

  from_comparison : (x : Measured) → Answers (comparison x) s r result → Answers (rest l.Comparison x) s r result
  unfolding rest rest_of comparison
  from_comparison x a = a

  pub comparison_answers : {level : Level} (x : Measured) → level ≡ l.Comparison → Answers (comparison x) s r result → Answers (rest level x) s r result
  comparison_answers x e a = subst (λ (k : Level). Answers (rest k x) s r result) (sym e) (from_comparison x a)

  from_alone : (x : Measured) → Answers (alone x) s r result → Answers (rest l.Sign x) s r result
  unfolding rest rest_of
  from_alone x a = a

  pub alone_answers : {level : Level} (x : Measured) → level ≡ l.Sign → Answers (alone x) s r result → Answers (rest level x) s r result
  alone_answers x e a = subst (λ (k : Level). Answers (rest k x) s r result) (sym e) (from_alone x a)

from_whole : (x : Expression) {m : Position} → Answers (after_head (h.Whole x)) m m (Ok (leaf_tree x))
unfolding after_head after_head_of
from_whole x = answers_ok give_only

pub whole_answers : {begin : Head} {x : Expression} {m : Position} → begin ≡ h.Whole x → Answers (after_head begin) m m (Ok (leaf_tree x))
whole_answers {x = x} {m = m} e = subst (λ (k : Head). Answers (after_head k) m m (Ok (leaf_tree x))) (sym e) (from_whole x)

-- ---- ranks, for measures

abbrev pub rank : Level → ℕ
rank l.Ternary = 10
rank l.LogicalOr = 9
rank l.LogicalAnd = 8
rank l.Comparison = 7
rank l.BitwiseOr = 6
rank l.BitwiseXor = 5
rank l.BitwiseAnd = 4
rank l.Shift = 3
rank l.Sum = 2
rank l.Product = 1
rank l.Sign = 0

pub rank_operand : (level : Level) → is_layer level ≡ true → rank (operand level) + 1 ≡ rank level
rank_operand l.Ternary e = refl
rank_operand l.LogicalOr e = refl
rank_operand l.LogicalAnd e = refl
rank_operand l.Comparison e = refl
rank_operand l.BitwiseOr e = refl
rank_operand l.BitwiseXor e = refl
rank_operand l.BitwiseAnd e = refl
rank_operand l.Shift e = refl
rank_operand l.Sum e = refl
rank_operand l.Product e = refl
rank_operand l.Sign e = cc

pub rank_small : (level : Level) → rank level ≤ 10
rank_small level = grind arith
