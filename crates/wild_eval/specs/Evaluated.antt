-- What evaluation with a memo promises.
use Rattle.std.specs.Prelude.{ℕ, ◌+◌, ◌≤◌, List, [], ◌∷◌, IfOk, Option, Some, None, Result, Err}
use Rattle.wild_names.specs.declared.fault.Fault.{Fault}
use Rattle.wild_names.specs.declared.fault.Fault.TheVariants.{UnknownSymbol}
use Rattle.wild_expression_tree.specs.declared.tree.AssertCommand.{AssertCommand}
use Rattle.wild_expression_tree.specs.declared.tree.Expression.{Expression}
use Rattle.wild_value_spec.specs.declared.value.Point.{Point}
use Rattle.wild_value_spec.specs.declared.value.Value.{Value}
use Rattle.wild_value_spec.specs.declared.value.Whole.{Whole}
use Rattle.wild_value_spec.specs.Answer.{Returns}
use Rattle.wild_value_spec.specs.Known.{Known}
use Rattle.wild_value_spec.specs.Marks.{max_height}
use Rattle.wild_value_spec.specs.Scope.{Name, Definition, Scope}
use Rattle.wild_value_spec.specs.Value as v
use Rattle.wild_memo_laws.specs.declared.slot.Slot.{Slot}
use Rattle.wild_memo_laws.specs.Sound.{Grows, IsSound, newly, unseen, whole}
use Rattle.wild_eval.specs.declared.evaluator.Evaluator.{Evaluator}
use Rattle.wild_eval.specs.Leaves.{known, scope}

-- a memo of what a scope defines: there is a slot for each definition, what is kept is right, and nothing is in work
abbrev pub IsMemoOf : Scope → Known → List Slot → Type 0
IsMemoOf scope known slots = IsSound scope known [] slots

-- the same of an evaluator's scope and addresses, at any statement
abbrev pub IsMemo : Evaluator → List Slot → Type 0
IsMemo e slots = IsMemoOf (scope e) (known e) slots

-- the nodes of the definitions that are unseen
abbrev pub unseen_in : Evaluator → List Slot → ℕ
unseen_in e slots = unseen (scope e).definitions slots

-- the nodes of the definitions that were unseen and are not any more
abbrev pub newly_in : Evaluator → List Slot → List Slot → ℕ
newly_in e old new = newly (scope e).definitions old new

-- it answers so, with a memo before and behind it, and counts this for what has so many nodes
pub record Evaluates {A : Type 0} (e : Evaluator) (cost : ℕ) (old new : List Slot) (before now : ℕ) (plain result : Result A Fault) : Type 0 where
  pub answer : Returns result plain
  pub sound : IsMemo e new
  pub grows : Grows (scope e) old new
  pub rises : before ≤ now
  pub most : now ≤ before + cost + unseen_in e old
  pub spent : IfOk result (λ x. now + unseen_in e new ≤ before + cost + unseen_in e old)
  pub most_known : IfOk result (λ x. now ≤ before + cost + newly_in e old new)

-- ---- the plain answers

-- the value of an expression
abbrev pub plain_value : Evaluator → Expression → Point → Result Value Fault
plain_value e a p = v.value (scope e) e.statement (known e) max_height [] a p

-- the number that it stands for
abbrev pub plain_full : Evaluator → Expression → Point → Result ℕ Fault
plain_full e a p = v.full_value (scope e) e.statement (known e) [] a p

-- what a definition is worth, with its name as the path
abbrev pub plain_definition : Evaluator → Name → Option Definition → Result Whole Fault
plain_definition e name None = Err (UnknownSymbol name)
plain_definition e name (Some d) = whole (scope e) e.statement (known e) max_height (name ∷ []) name d

-- what an ASSERT statement is worth
abbrev pub plain_statement : Evaluator → AssertCommand → Point → Result Value Fault
plain_statement e command p = v.assert_statement (scope e) e.statement (known e) command p
