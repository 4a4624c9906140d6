use Rattle.std.proofs.Common.{◌≡◌, drop}
use Rattle.wild_plan_spec.specs.Steps.{rows_placed}
use Rattle.wild_plan.specs.Moves.{state_of}
use Rattle.wild_plan.proofs.walk.Walk.place_rows.Given as goal

abbrev pub invariant-loop-row : goal.invariant-loop-row
invariant-loop-row l = rows_placed (drop l.row-index l.rows) (state_of l.self) ≡ rows_placed l.rows (state_of l.fn.self)
