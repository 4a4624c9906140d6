-- Which plan fits a case, and which fault stands there instead.
use Rattle.std.specs.Prelude.{◌≡◌, ◌⊎◌, List, Some, None, Ok, Err, length}
use Rattle.wild_names.specs.declared.fault.Fault.{Fault}
use Rattle.wild_plan_spec.specs.declared.chunk.Chunk.{Chunk}
use Rattle.wild_plan_spec.specs.declared.chunk.ChunkRow.{ChunkRow}
use Rattle.wild_plan_spec.specs.declared.placed.PlacedSymbol.{PlacedSymbol}
use Rattle.wild_plan_spec.specs.Case.{Case}
use Rattle.wild_plan_spec.specs.Checks.{checks, failing}
use Rattle.wild_plan_spec.specs.Chunks.{rows_in}
use Rattle.wild_plan_spec.specs.End.{final_symbols}
use Rattle.wild_plan_spec.specs.Fates.{fates_of}
use Rattle.wild_plan_spec.specs.Ground.{ground_of}
use Rattle.wild_plan_spec.specs.Layout.{Layout, layout}
use Rattle.wild_plan_spec.specs.Order.{IsOrdered, stands_before}
use Rattle.wild_plan_spec.specs.Orphans.{places_of}
use Rattle.wild_plan_spec.specs.Scopes.{scope_of}
use Rattle.wild_plan_spec.specs.Steps.{State}
use Rattle.wild_plan_spec.specs.Walk.{Stands, Refuses}

module _ (c : Case) where
  -- the rows of each chunk, in their order
  abbrev pub AreOrdered : (Chunk → List ChunkRow) → Type 0
  AreOrdered order = (q : Chunk) → IsOrdered stands_before (rows_in q c.inputs.rows (fates_of c.commands c.inputs)) (order q)

  -- All checks hold, and all places are laid out.
  pub record IsLaid (state : State) : Type 0 where
    pub sound : failing (checks c) ≡ None
    pub order : Chunk → List ChunkRow
    pub ordered : AreOrdered order
    pub stands : Stands (ground_of c order) (places_of c.commands c.inputs) (length (places_of c.commands c.inputs)) state

  -- Then all symbols have values and all conditions hold over what is known, and the plan lists that.
  pub record Fits (plan : Layout) : Type 0 where
    pub state : State
    pub laid : IsLaid state
    pub found : List PlacedSymbol
    pub finishes : final_symbols (scope_of c) state.known (places_of c.commands c.inputs) ≡ Ok found
    pub listed : plan ≡ layout c state found

  -- All checks hold, and a place refuses.
  pub record LayoutFault (fault : Fault) : Type 0 where
    pub sound : failing (checks c) ≡ None
    pub order : Chunk → List ChunkRow
    pub ordered : AreOrdered order
    pub refuses : Refuses (ground_of c order) (places_of c.commands c.inputs) fault

  -- All places are laid out, and a symbol has no value, or else a condition does not hold.
  pub record EndFault (fault : Fault) : Type 0 where
    pub state : State
    pub laid : IsLaid state
    pub refused : final_symbols (scope_of c) state.known (places_of c.commands c.inputs) ≡ Err fault

  -- the first check that fails, or the first place that refuses, or the first fault after them
  abbrev pub FaultIn : Fault → Type 0
  FaultIn fault = (failing (checks c) ≡ Some fault) ⊎ LayoutFault fault ⊎ EndFault fault
