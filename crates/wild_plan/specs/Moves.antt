-- What a walk stands for.
use Rattle.std.specs.Prelude.{◌≡◌, Result, Ok, Err}
use Rattle.wild_names.specs.declared.fault.Fault.{Fault}
use Rattle.wild_value_spec.specs.Answer.{Fails}
use Rattle.wild_plan_spec.specs.Steps.{State}
use Rattle.wild_plan.specs.declared.walk.Walk.{Walk}
use Rattle.wild_eval.specs.Addresses.{known_of}

-- what stands before the next place
abbrev pub state_of : Walk → State
state_of w = record { counter = w.counter; regions = w.regions.items; cursor = w.cursor; known = known_of w.addresses; locations = w.locations }

-- the walk has come where the answer says, or there is its refusal, unless memory ran out
abbrev pub Moves : {X : Type 0} → Result X Fault → Walk → Result State Fault → Type 0
Moves (Ok x) walk answer = answer ≡ Ok (state_of walk)
Moves (Err f) walk answer = Fails f answer
