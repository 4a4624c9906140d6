-- What expressions are evaluated over, once all places are laid out, and what is defined there.
use Rattle.std.specs.Prelude.{◌≡◌, ◌≢◌, ℕ, true, List, [], Some, slice_get}
use Rattle.wild_expression_tree.specs.declared.tree.Expression.{Expression}
use Rattle.wild_value_spec.specs.Known.{Known}
use Rattle.wild_value_spec.specs.Scope.{Name, OfScript, Scope, definition_of}
use Rattle.wild_plan_spec.specs.declared.place.Where.{Where}
use Rattle.wild_plan_spec.specs.Places.{Place, Wait, Task, Assign, Provide}
use Rattle.wild_plan_spec.specs.Points.{task_point}
use Rattle.wild_plan_spec.specs.Symbols.{is_at}
use Rattle.wild_eval.specs.Addresses.{known_of}
use Rattle.wild_plan.specs.declared.ends.End.{End}
use Rattle.wild_plan.specs.Ground.{shown_ground}

-- what the script and its table say
abbrev pub scope : End → Scope
scope end = (shown_ground end.ground.now).scope

-- what is known of the layout
abbrev pub known : End → Known
known end = known_of end.addresses.now

-- ---- definitions

module _ (scope : Scope) where
  -- the definition that counts for a name is this expression at place i
  abbrev pub IsDefined : ℕ → Where → Name → Expression → Type 0
  IsDefined i w name e = definition_of scope name ≡ Some (OfScript e (task_point i w e))

  -- an assignment to a name that is not empty counts, and a PROVIDE counts where the definition is at its place
  abbrev pub IsTaskDefined : ℕ → Where → Task → Type 0
  IsTaskDefined i w (Assign name e) = name ≢ [] → IsDefined i w name e
  IsTaskDefined i w (Provide d) = is_at i (definition_of scope d.name) ≡ true → IsDefined i w d.name d.value
  IsTaskDefined i w t = Unit {0}

  -- the same of a place
  abbrev pub IsPlaceDefined : ℕ → Place → Type 0
  IsPlaceDefined i (Wait w task) = IsTaskDefined i w task
  IsPlaceDefined i p = Unit {0}

  -- the same of each place
  abbrev pub AreDefined : List Place → Type 0
  AreDefined ps = (i : ℕ) (p : Place) → slice_get ps i ≡ Some p → IsPlaceDefined i p
