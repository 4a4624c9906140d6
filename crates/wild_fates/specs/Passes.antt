-- What a check answers.
use Rattle.std.specs.Prelude.{◌≡◌, ◌⊎◌, List, Option, Some, None, Result, IfOk, IfErr, if◌then◌else◌}
use Rattle.std.specs.List.{list_any}
use Rattle.wild_numbering.specs.Numbering.{is_named}
use Rattle.wild_names.specs.declared.fault.Fault.{Fault}
use Rattle.wild_names.specs.declared.fault.Fault.TheVariants.{NoMemory}
use Rattle.wild_plan_spec.specs.Names.{Name}

-- memory ran out, or this is the fault that is wanted
abbrev pub IsWanted : Option Fault → Fault → Type 0
IsWanted wanted fault = (fault ≡ NoMemory) ⊎ (wanted ≡ Some fault)

-- it passes where no fault is wanted, and else has the fault, unless memory ran out
pub record Passes {X : Type 0} (wanted : Option Fault) (result : Result X Fault) : Type 0 where
  pub ok : IfOk result (λ x. wanted ≡ None)
  pub err : IfErr result (IsWanted wanted)

-- the fault of a name that stands among these
abbrev pub repeated : (Name → Fault) → List Name → Name → Option Fault
repeated fault names x = if list_any (is_named x) names then Some (fault x) else None
