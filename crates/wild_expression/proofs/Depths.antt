-- Each part of an expression is as deep as its limit allows, and is read within each limit that its depth allows.
use Rattle.std.proofs.Common.{ℕ, zero, suc, ◌≤◌, arith}
use Rattle.wild_reading.specs.Position.{Bytes}
use Rattle.wild_reading.specs.Reader.{Reader}
use Rattle.wild_reading.specs.Family.{levels, InsideAt}
use Rattle.wild_reading.proofs.Readers.{IsInner}
use Rattle.wild_expression_words.specs.declared.operators.Level.{Level}
use Rattle.wild_expression_words.specs.declared.operators.Level.TheVariants as l
use Rattle.wild_expression_words.specs.declared.words.Call.{Call}
use Rattle.wild_expression_words.specs.declared.words.Call.TheVariants as c
use Rattle.wild_expression_words.specs.declared.words.Extreme.{Extreme}
use Rattle.wild_expression_tree.specs.declared.operator.Question.{Question}
use Rattle.wild_expression_words.specs.declared.words.Head.{Head}
use Rattle.wild_expression_words.specs.declared.words.Head.TheVariants as h
use Rattle.wild_expression.specs.declared.measured.Measured.{Measured}
use Rattle.wild_expression.specs.Grammar.{Values, question, brackets_of, pair_of, align_counter, align_value_of, align_rest_of, align_of, segment_start_of, assert_of, arguments_of, after_head_of, primary_of, unary_of, unary_or_primary_of, sign_of, step_of, chain_of, alone, comparison_of, alternatives_of, ternary_of, rest_of, layer_of, product_of, sum_of, shift_of, bitwise_and_of, bitwise_xor_of, bitwise_or_of, comparison_level_of, logical_and_of, logical_or_of, whole_of, value_of, inner_value, value}
use Rattle.wild_expression.specs.Depths.{DepthsAreBudgets}
use Rattle.wild_expression_words.specs.Dialect.{first_grammar}
use Rattle.wild_expression.proofs.Free.{here_free, white_free, byte_free, gap_free, name_free, symbol_free, close_free, segment_free, identifier_free, operator_free, sign_free, head_free}
use Rattle.wild_expression.proofs.Deep.{Below, Lends, AreDeep, give_deep, then_fixed, then_inner, then_first, then_room, choice_deep, folds_deep}

module _ (n : ℕ) where
  question_deep : (asks : Question) → AreDeep n 0 (λ R. question first_grammar asks)
  unfolding question
  question_deep asks = then_fixed (byte_free _) (λ _. then_room 0 (λ e. then_fixed white_free (λ _. then_fixed identifier_free (λ w. then_fixed white_free (λ _. then_fixed close_free (λ _. give_deep (omega arith) (omega (arith, e))))))))

  brackets_deep : AreDeep n 0 (brackets_of first_grammar)
  unfolding brackets_of
  brackets_deep = then_fixed (byte_free _) (λ _. then_inner l.Ternary (λ x e. then_fixed close_free (λ _. give_deep (omega arith) (omega (arith, e)))))

  pair_deep : (extreme : Extreme) → AreDeep n 0 (λ R. pair_of first_grammar R extreme)
  unfolding pair_of
  pair_deep extreme = then_fixed (byte_free _) (λ _. then_inner l.Ternary (λ x e. then_fixed (byte_free _) (λ _. then_inner l.Ternary (λ y f. then_fixed close_free (λ _. give_deep (omega arith) (omega (arith, e, f)))))))

  align_deep : AreDeep n 0 (align_of first_grammar)
  unfolding align_of align_rest_of align_counter align_value_of
  align_deep = then_fixed (byte_free _) (λ _. then_inner l.Ternary (λ x e. choice_deep
      (then_fixed (byte_free _) (λ _. then_inner l.Ternary (λ y f. then_fixed close_free (λ _. give_deep (omega arith) (omega (arith, e, f))))))
      (then_fixed close_free (λ _. give_deep (omega arith) (omega (arith, e))))))

  segment_start_deep : AreDeep n 0 (segment_start_of first_grammar)
  unfolding segment_start_of
  segment_start_deep = then_fixed (byte_free _) (λ _. then_fixed white_free (λ _. then_fixed segment_free (λ w. then_fixed white_free (λ _. then_fixed (byte_free _) (λ _. then_inner l.Ternary (λ x e. then_fixed close_free (λ _. give_deep (omega arith) (omega (arith, e)))))))))

  assert_deep : AreDeep n 0 assert_of
  unfolding assert_of
  assert_deep = then_fixed here_free (λ at. then_fixed (symbol_free _) (λ _. then_inner l.Ternary (λ x e. then_fixed gap_free (λ _. then_fixed (symbol_free _) (λ _. then_fixed name_free (λ message. then_fixed (symbol_free _) (λ _. give_deep (omega arith) (omega (arith, e)))))))))

  arguments_deep : (call : Call) → AreDeep n 0 (λ R. arguments_of first_grammar R call)
  unfolding arguments_of
  arguments_deep c.Brackets = brackets_deep
  arguments_deep (c.Name asks) = question_deep asks
  arguments_deep c.Align = align_deep
  arguments_deep (c.Pair extreme) = pair_deep extreme
  arguments_deep c.SegmentStart = segment_start_deep
  arguments_deep c.Assert = assert_deep

  after_head_deep : (begin : Head) → AreDeep n 0 (λ R. after_head_of first_grammar R begin)
  unfolding after_head_of
  after_head_deep (h.Whole x) = give_deep (omega arith) (omega arith)
  after_head_deep (h.Before call) = arguments_deep call

  sign_deep : AreDeep n 0 (sign_of first_grammar)
  unfolding sign_of unary_or_primary_of unary_of primary_of
  sign_deep = then_fixed white_free (λ _. choice_deep
      (then_fixed sign_free (λ s. then_inner l.Sign (λ x e. give_deep (omega arith) (omega (arith, e)))))
      (then_fixed head_free after_head_deep))

  step_deep : {d : ℕ} (level : Level) (x : Measured) → d ≤ x.depth → AreDeep n d (λ R. step_of R level x)
  unfolding step_of
  step_deep {d} level x low = then_fixed (operator_free _) (λ op. then_room x.depth (λ e. then_inner _ (λ y f. give_deep (omega (arith, low)) (omega (arith, e, f)))))

  chain_deep : {d : ℕ} (level : Level) (x : Measured) → d ≤ x.depth → x.depth ≤ n → AreDeep n d (λ R. chain_of R level x)
  unfolding chain_of
  chain_deep level x low u = folds_deep (λ y _. step_deep level y (omega arith)) x low u

  alone_deep : {d : ℕ} (x : Measured) → d ≤ x.depth → x.depth ≤ n → AreDeep n d (λ R. alone x)
  unfolding alone
  alone_deep x low u = give_deep low u

  ternary_deep : {d : ℕ} (x : Measured) → d ≤ x.depth → x.depth ≤ n → AreDeep n d (λ R. ternary_of R x)
  unfolding ternary_of alternatives_of
  ternary_deep x low u = choice_deep
      (then_fixed (byte_free _) (λ _. then_room x.depth (λ e. then_inner l.Ternary (λ y f. then_fixed (byte_free _) (λ _. then_inner l.Ternary (λ z g. give_deep (omega (arith, low)) (omega (arith, e, f, g))))))))
      (alone_deep x low u)

  rest_deep : {d : ℕ} (level : Level) (x : Measured) → d ≤ x.depth → x.depth ≤ n → AreDeep n d (λ R. rest_of R level x)
  unfolding rest_of comparison_of
  rest_deep l.Ternary x low u = ternary_deep x low u
  rest_deep l.LogicalOr x low u = chain_deep l.LogicalOr x low u
  rest_deep l.LogicalAnd x low u = chain_deep l.LogicalAnd x low u
  rest_deep l.Comparison x low u = choice_deep (alone_deep x low u) (step_deep l.Comparison x low)
  rest_deep l.BitwiseOr x low u = chain_deep l.BitwiseOr x low u
  rest_deep l.BitwiseXor x low u = chain_deep l.BitwiseXor x low u
  rest_deep l.BitwiseAnd x low u = chain_deep l.BitwiseAnd x low u
  rest_deep l.Shift x low u = chain_deep l.Shift x low u
  rest_deep l.Sum x low u = chain_deep l.Sum x low u
  rest_deep l.Product x low u = chain_deep l.Product x low u
  rest_deep l.Sign x low u = alone_deep x low u

  layer_deep : (level : Level) {F : Values → Reader Measured} → AreDeep n 0 F → AreDeep n 0 (λ R. layer_of R level (F R))
  unfolding layer_of
  layer_deep level f = then_first f (λ x u. rest_deep level x (omega arith) u)

  product_deep : AreDeep n 0 (product_of first_grammar)
  unfolding product_of
  product_deep = layer_deep l.Product sign_deep

  sum_deep : AreDeep n 0 (sum_of first_grammar)
  unfolding sum_of
  sum_deep = layer_deep l.Sum product_deep

  shift_deep : AreDeep n 0 (shift_of first_grammar)
  unfolding shift_of
  shift_deep = layer_deep l.Shift sum_deep

  bitwise_and_deep : AreDeep n 0 (bitwise_and_of first_grammar)
  unfolding bitwise_and_of
  bitwise_and_deep = layer_deep l.BitwiseAnd shift_deep

  bitwise_xor_deep : AreDeep n 0 (bitwise_xor_of first_grammar)
  unfolding bitwise_xor_of
  bitwise_xor_deep = layer_deep l.BitwiseXor bitwise_and_deep

  bitwise_or_deep : AreDeep n 0 (bitwise_or_of first_grammar)
  unfolding bitwise_or_of
  bitwise_or_deep = layer_deep l.BitwiseOr bitwise_xor_deep

  compared_deep : AreDeep n 0 (comparison_level_of first_grammar)
  unfolding comparison_level_of
  compared_deep = layer_deep l.Comparison bitwise_or_deep

  logical_and_deep : AreDeep n 0 (logical_and_of first_grammar)
  unfolding logical_and_of
  logical_and_deep = layer_deep l.LogicalAnd compared_deep

  logical_or_deep : AreDeep n 0 (logical_or_of first_grammar)
  unfolding logical_or_of
  logical_or_deep = layer_deep l.LogicalOr logical_and_deep

  whole_deep : AreDeep n 0 (whole_of first_grammar)
  unfolding whole_of
  whole_deep = layer_deep l.Ternary logical_or_deep

  value_deep : (level : Level) → AreDeep n 0 (λ R. value_of first_grammar R level)
  unfolding value_of
  value_deep l.Ternary = whole_deep
  value_deep l.LogicalOr = logical_or_deep
  value_deep l.LogicalAnd = logical_and_deep
  value_deep l.Comparison = compared_deep
  value_deep l.BitwiseOr = bitwise_or_deep
  value_deep l.BitwiseXor = bitwise_xor_deep
  value_deep l.BitwiseAnd = bitwise_and_deep
  value_deep l.Shift = shift_deep
  value_deep l.Sum = sum_deep
  value_deep l.Product = product_deep
  value_deep l.Sign = sign_deep

-- ---- the knot

levels_below : (n : ℕ) → Below n (levels (value_of first_grammar) n)
unfolding levels
levels_below zero k b i y j h = absurd h
levels_below (suc n) k b i y j h = omega (arith, (value_deep n k).bound (levels (value_of first_grammar) n) (levels_below n) b i y j h)

levels_lend : (n m : ℕ) → Lends n m (levels (value_of first_grammar) n) (levels (value_of first_grammar) m)
unfolding levels
levels_lend zero m k b i y j h e = absurd h
levels_lend (suc n) zero k b i y j h e = let never : ⊥ = omega (arith, e) in absurd never
levels_lend (suc n) (suc m) k b i y j h e = (value_deep n k).keeps m (levels (value_of first_grammar) n) (levels (value_of first_grammar) m) (levels_below n) (levels_lend n m) b i y j h (omega (arith, e))

inside_below : (n : ℕ) → Below n (InsideAt (value_of first_grammar))
inside_below n k b i y j h = levels_below n k b i y j h.is

inside_lends : (n m : ℕ) → Lends n m (InsideAt (value_of first_grammar)) (InsideAt (value_of first_grammar))
inside_lends n m k b i y j h e = record { is = levels_lend n m k b i y j h.is e }

pub into : (level : Level) (b : Bytes) (limit i : ℕ) (x : Measured) (j : ℕ) → value level b limit i x j → x.depth ≤ limit
unfolding value
into level b limit i x j h = (value_deep limit level).bound (InsideAt (value_of first_grammar)) (inside_below limit) b i x j h

pub back : (level : Level) (b : Bytes) (limit i : ℕ) (x : Measured) (j : ℕ) (m : ℕ) → value level b m i x j → x.depth ≤ limit → value level b limit i x j
unfolding value
back level b limit i x j m h e = (value_deep m level).keeps limit (InsideAt (value_of first_grammar)) (InsideAt (value_of first_grammar)) (inside_below m) (inside_lends m limit) b i x j h e

pub budgets : DepthsAreBudgets
budgets level b limit i x j = (λ h. ((limit, h), into level b limit i x j h), λ h. back level b limit i x j h.0.0 h.0.1 h.1)

-- ---- the inner reader is the outer one, one deeper

module _ (level : Level) where
  deeper : (b : Bytes) (limit i : ℕ) (x : Measured) (j : ℕ) → value level b limit i x j → inner_value level b (suc limit) i x j
  unfolding value inner_value levels
  deeper b limit i x j h = record {
    is = (value_deep limit level).keeps limit (InsideAt (value_of first_grammar)) (levels (value_of first_grammar) limit) (inside_below limit) (λ k c m y n g e. g.is) b i x j h (into level b limit i x j h);
  }

  shallower : (b : Bytes) (limit i : ℕ) (x : Measured) (j : ℕ) → inner_value level b (suc limit) i x j → value level b limit i x j
  unfolding value inner_value levels
  shallower b limit i x j h =
      let d = value_deep limit level in
      d.keeps limit (levels (value_of first_grammar) limit) (InsideAt (value_of first_grammar)) (levels_below limit) (λ k c m y n g e. record { is = g }) b i x j h.is (d.bound (levels (value_of first_grammar) limit) (levels_below limit) b i x j h.is)

  nothing : (b : Bytes) (i : ℕ) (x : Measured) (j : ℕ) → inner_value level b zero i x j → ⊥
  unfolding inner_value levels
  nothing b i x j h = h.is

  pub value_inner : IsInner (value level) (inner_value level)
  value_inner = record { into = deeper; out = shallower; never = nothing }
