-- Chains are lists grouped to the left.
use Rattle.std.proofs.Common.{◌≡◌, ℕ, List, [], ◌∷◌, refl, subst, sym, true, false}
use Rattle.wild_reading.specs.Position.{Bytes}
use Rattle.wild_reading.specs.Family.{Fold, done, next, room}
use Rattle.wild_expression_words.specs.declared.operators.Level.{Level}
use Rattle.wild_expression_words.specs.declared.operators.Level.TheVariants as l
use Rattle.wild_expression.specs.declared.measured.Measured.{Measured}
use Rattle.wild_expression_words.specs.Operators.{operand, ends, is_chain}
use Rattle.wild_expression.specs.Grammar.{binary_tree, value, value_of, inner_value, layer_of, rest_of, chain, chain_of, step, step_of, product_of, sum_of, shift_of, bitwise_and_of, bitwise_xor_of, bitwise_or_of, comparison_level_of, logical_and_of, logical_or_of, whole_of}
use Rattle.wild_expression.specs.Chains.{Link, grouped, IsLink, Links, IsChain, ChainsAreLists}

module _ (level : Level) (b : Bytes) (limit : ℕ) where
  of_step : (x : Measured) (i : ℕ) (y : Measured) (m : ℕ) → ends level b i ≡ false → step level x b limit i y m → (link : Link) × IsLink level b limit x.depth i link m × (y ≡ binary_tree link.operator x link.operand)
  unfolding step step_of room
  of_step x i y m e h =
      let at_room = h.second.first in
      let right = h.second.second in (
        record { operator = h.value; operand = right.value },
        record { more = e; middle = h.middle; operator = h.first; room = at_room.deep; operand = subst (λ (n : ℕ). inner_value (operand level) b limit n right.value m) at_room.end (subst (λ (n : ℕ). inner_value (operand level) b limit h.second.middle right.value n) (sym right.second.end) right.first) },
        right.second.value,
      )

  to_step : (x : Measured) (i : ℕ) (link : Link) (m : ℕ) → IsLink level b limit x.depth i link m → step level x b limit i (binary_tree link.operator x link.operand) m
  unfolding step step_of room
  to_step x i link m h = record {
    value = link.operator;
    middle = h.middle;
    first = h.operator;
    second = record { value = tt; middle = h.middle; first = record { deep = h.room; end = refl }; second = record { value = link.operand; middle = m; first = h.operand; second = record { value = refl; end = refl } } };
  }

  into : {x y : Measured} {i j : ℕ} → Fold (ends level) (step level) b limit x i y j → (links : List Link) × Links level b limit x i links j × (y ≡ grouped x links)
  into (done e) = ([], (e, refl), refl)
  into (next {x} {y = m} {z} {m = k} {j} e h more) =
      let p = of_step x _ m k e h in
      let q = into more in
      (p.0 ∷ q.0, (k, p.1, subst (λ (n : Measured). Links level b limit n k q.0 j) p.2 q.1), subst (λ (n : Measured). z ≡ grouped n q.0) p.2 q.2)

  back : (x : Measured) (i : ℕ) (links : List Link) (j : ℕ) → Links level b limit x i links j → Fold (ends level) (step level) b limit x i (grouped x links) j
  back x i [] j h = subst (λ (n : ℕ). Fold (ends level) (step level) b limit x i x n) (sym h.1) (done h.0)
  back x i (link ∷ links) j h = next h.1.more (to_step x i link h.0 h.1) (back (binary_tree link.operator x link.operand) h.0 links j h.2)

  pub of_layer : (i : ℕ) (y : Measured) (j : ℕ) → (x : Measured) (m : ℕ) → value (operand level) b limit i x m → chain level x b limit m y j → IsChain level b limit i y j
  unfolding chain
  of_layer i y j x m h k =
      let p = into k.is in
      record { first = x; middle = m; links = p.0; reads = h; follow = p.1; is = p.2 }

  pub to_chain : (i : ℕ) (y : Measured) (j : ℕ) (h : IsChain level b limit i y j) → chain level h.first b limit h.middle y j
  unfolding chain
  to_chain i y j h = record { is = subst (λ (n : Measured). Fold (ends level) (step level) b limit h.first h.middle n j) (sym h.is) (back h.first h.middle h.links j h.follow) }

of_value : (level : Level) → is_chain level ≡ true → (b : Bytes) (limit i : ℕ) (y : Measured) (j : ℕ) → value level b limit i y j → IsChain level b limit i y j
unfolding value value_of inner_value layer_of rest_of chain chain_of step product_of sum_of shift_of bitwise_and_of bitwise_xor_of bitwise_or_of comparison_level_of logical_and_of logical_or_of whole_of
of_value l.Ternary e b limit i y j h = cc
of_value l.LogicalOr e b limit i y j h = of_layer l.LogicalOr b limit i y j h.value h.middle h.first h.second
of_value l.LogicalAnd e b limit i y j h = of_layer l.LogicalAnd b limit i y j h.value h.middle h.first h.second
of_value l.Comparison e b limit i y j h = cc
of_value l.BitwiseOr e b limit i y j h = of_layer l.BitwiseOr b limit i y j h.value h.middle h.first h.second
of_value l.BitwiseXor e b limit i y j h = of_layer l.BitwiseXor b limit i y j h.value h.middle h.first h.second
of_value l.BitwiseAnd e b limit i y j h = of_layer l.BitwiseAnd b limit i y j h.value h.middle h.first h.second
of_value l.Shift e b limit i y j h = of_layer l.Shift b limit i y j h.value h.middle h.first h.second
of_value l.Sum e b limit i y j h = of_layer l.Sum b limit i y j h.value h.middle h.first h.second
of_value l.Product e b limit i y j h = of_layer l.Product b limit i y j h.value h.middle h.first h.second
of_value l.Sign e b limit i y j h = cc

to_value : (level : Level) → is_chain level ≡ true → (b : Bytes) (limit i : ℕ) (y : Measured) (j : ℕ) → IsChain level b limit i y j → value level b limit i y j
unfolding value value_of inner_value layer_of rest_of chain chain_of step product_of sum_of shift_of bitwise_and_of bitwise_xor_of bitwise_or_of comparison_level_of logical_and_of logical_or_of whole_of
to_value l.Ternary e b limit i y j h = cc
to_value l.LogicalOr e b limit i y j h = record { value = h.first; middle = h.middle; first = h.reads; second = to_chain l.LogicalOr b limit i y j h }
to_value l.LogicalAnd e b limit i y j h = record { value = h.first; middle = h.middle; first = h.reads; second = to_chain l.LogicalAnd b limit i y j h }
to_value l.Comparison e b limit i y j h = cc
to_value l.BitwiseOr e b limit i y j h = record { value = h.first; middle = h.middle; first = h.reads; second = to_chain l.BitwiseOr b limit i y j h }
to_value l.BitwiseXor e b limit i y j h = record { value = h.first; middle = h.middle; first = h.reads; second = to_chain l.BitwiseXor b limit i y j h }
to_value l.BitwiseAnd e b limit i y j h = record { value = h.first; middle = h.middle; first = h.reads; second = to_chain l.BitwiseAnd b limit i y j h }
to_value l.Shift e b limit i y j h = record { value = h.first; middle = h.middle; first = h.reads; second = to_chain l.Shift b limit i y j h }
to_value l.Sum e b limit i y j h = record { value = h.first; middle = h.middle; first = h.reads; second = to_chain l.Sum b limit i y j h }
to_value l.Product e b limit i y j h = record { value = h.first; middle = h.middle; first = h.reads; second = to_chain l.Product b limit i y j h }
to_value l.Sign e b limit i y j h = cc

pub lists : ChainsAreLists
lists level e b limit i y j = (of_value level e b limit i y j, to_value level e b limit i y j)
