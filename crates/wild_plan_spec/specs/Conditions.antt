-- The conditions of a script: its ASSERTs outside of expressions.
use Rattle.std.specs.Prelude.{ℕ, ◌+◌, List, [], ◌∷◌, Result, Ok}
use Rattle.wild_names.specs.declared.fault.Fault.{Fault}
use Rattle.wild_expression_tree.specs.declared.tree.AssertCommand.{AssertCommand}
use Rattle.wild_value_spec.specs.Answer.{◌>>=◌}
use Rattle.wild_value_spec.specs.Known.{Known}
use Rattle.wild_value_spec.specs.Scope.{Scope}
use Rattle.wild_value_spec.specs.Value.{assert_statement}
use Rattle.wild_plan_spec.specs.declared.place.Where.{Where}
use Rattle.wild_plan_spec.specs.Places.{Place, SetLocation, Wait, Open, Collect, Rows, Close, Discard, Idle, Memory, Headers, Format, Task, Assign, Provide, Locate, Check}
use Rattle.wild_plan_spec.specs.Points.{condition_point}

module _ (scope : Scope) (known : Known) where
  -- the condition of an ASSERT is not 0
  abbrev pub assert_holds : ℕ → Where → AssertCommand → Result (Unit {0}) Fault
  assert_holds i w c = assert_statement scope i known c (condition_point i w) >>= (λ x. Ok tt)

  -- where a task is a condition, it holds
  unfoldable pub task_holds : ℕ → Where → Task → Result (Unit {0}) Fault
  task_holds i w (Check c) = assert_holds i w c
  task_holds i w (Assign name e) = Ok tt
  task_holds i w (Provide d) = Ok tt
  task_holds i w (Locate e) = Ok tt

  -- where a place is one, it holds
  unfoldable pub place_holds : ℕ → Place → Result (Unit {0}) Fault
  place_holds i (Wait w task) = task_holds i w task
  place_holds i (SetLocation s e) = Ok tt
  place_holds i (Open s x) = Ok tt
  place_holds i (Collect q m) = Ok tt
  place_holds i (Rows q) = Ok tt
  place_holds i (Close s rest) = Ok tt
  place_holds i (Discard x) = Ok tt
  place_holds i Idle = Ok tt
  place_holds i (Memory regions) = Ok tt
  place_holds i (Headers headers) = Ok tt
  place_holds i (Format format) = Ok tt

  -- in text order; the first place of the list has the number i
  abbrev pub conditions : ℕ → List Place → Result (Unit {0}) Fault
  conditions i [] = Ok tt
  conditions i (p ∷ ps) = place_holds i p >>= (λ u. conditions (i + 1) ps)
