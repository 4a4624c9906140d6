-- What stands before each place, from the first on.
use Rattle.std.specs.Prelude.{◌≡◌, ℕ, ◌+◌, ◌<◌, ◌≤◌, List, Some, Ok, Err, length, slice_get}
use Rattle.wild_names.specs.declared.fault.Fault.{Fault}
use Rattle.wild_plan_spec.specs.Ground.{Ground}
use Rattle.wild_plan_spec.specs.Places.{Place}
use Rattle.wild_plan_spec.specs.Steps.{State, first_state, step}

module _ (ground : Ground) (places : List Place) where
  -- the first k places are laid out: each leads by its step from what stands before it to what stands after it
  pub record Stands (k : ℕ) (state : State) : Type 0 where
    pub before : ℕ → State
    pub within : k ≤ length places
    pub first : before 0 ≡ first_state ground
    pub each : (i : ℕ) (p : Place) → i < k → slice_get places i ≡ Some p → step ground i p (before i) ≡ Ok (before (i + 1))
    pub last : before k ≡ state

  -- the places before one are laid out, and that one has this fault as its first refusal
  pub record Refuses (fault : Fault) : Type 0 where
    pub place : ℕ
    pub state : State
    pub statement : Place
    pub below : Stands place state
    pub there : slice_get places place ≡ Some statement
    pub refused : step ground place statement state ≡ Err fault
