-- The number that a symbol stands for, from what its definition is worth.
use Rattle.std.proofs.Common.{◌≡◌, ℕ, [], ◌∷◌, Some, Result, Ok, Err, refl, inl, inr, ap, sym, ◌∙◌}
use Rattle.std.specs.Prelude.{slice_get}
use Rattle.wild_names.specs.declared.fault.Fault.{Fault}
use Rattle.wild_expression_tree.specs.declared.tree.Expression.{Expression}
use Rattle.wild_value_spec.specs.declared.value.Point.{Point}
use Rattle.wild_value_spec.specs.declared.value.Value.{Value}
use Rattle.wild_value_spec.specs.declared.value.Whole.{Whole}
use Rattle.wild_value_spec.specs.Answer.{Fails, Gives, Returns, ◌>>=◌}
use Rattle.wild_value_spec.specs.Scope.{Name, OfScript, definition_at, definition_of}
use Rattle.wild_value_spec.specs.Value as plain
use Rattle.wild_eval.specs.declared.evaluator.Evaluator.{Evaluator}
use Rattle.wild_eval.specs.Evaluated.{plain_definition}
use Rattle.wild_eval.specs.Leaves.{known, scope}

pub gives_returns : {A : Type 0} (r answer : Result A Fault) → Gives r answer → Returns r answer
gives_returns (Ok x) answer h = h
gives_returns (Err f) answer (inl h) = inl h.0
gives_returns (Err f) answer (inr h) = inr h

-- the number of what something is worth
abbrev pub numbered : Result Whole Fault → Result ℕ Fault
numbered r = r >>= (λ w. Ok w.number)

whole_number_by : (x : Value) (n : Result ℕ Fault) → numbered (n >>= (λ n. Ok (record { number = n; height = x.height }))) ≡ n
whole_number_by x (Ok n) = refl
whole_number_by x (Err f) = refl

module _ (v : Evaluator) where
  whole_number : (p : Point) (r : Result Value Fault) → numbered (r >>= plain.value_whole (scope v) v.statement (known v) p) ≡ (r >>= plain.full_number (scope v) v.statement (known v) p)
  unfolding plain.value_whole
  whole_number p (Ok x) = whole_number_by x (plain.full_number (scope v) v.statement (known v) p x)
  whole_number p (Err f) = refl

  module _ (name : Name) (i : ℕ) (e : Expression) (p : Point) (named : (scope v).symbol name ≡ Some i) (defined : definition_of (scope v) name ≡ Some (OfScript e p)) where
    symbol_full : numbered (plain_definition v name (slice_get (scope v).definitions i)) ≡ plain.full_value (scope v) v.statement (known v) (name ∷ []) e p
    unfolding plain.full
    symbol_full =
        let placed : slice_get (scope v).definitions i ≡ Some (OfScript e p) = ap (definition_at (scope v).definitions) (sym named) ∙ defined in
        ap (λ d. numbered (plain_definition v name d)) placed ∙ whole_number p (plain.value (scope v) v.statement (known v) 1024 (name ∷ []) e p)

    pub symbol_ok : (w : Whole) → plain_definition v name (slice_get (scope v).definitions i) ≡ Ok w → plain.full_value (scope v) v.statement (known v) (name ∷ []) e p ≡ Ok w.number
    symbol_ok w h = sym symbol_full ∙ ap numbered h

    pub symbol_err : (f : Fault) → Fails f (plain_definition v name (slice_get (scope v).definitions i)) → Fails f (plain.full_value (scope v) v.statement (known v) (name ∷ []) e p)
    symbol_err f (inl h) = inl h
    symbol_err f (inr h) = inr (sym symbol_full ∙ ap numbered h)
