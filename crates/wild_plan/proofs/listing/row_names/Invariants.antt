use Rattle.std.proofs.Common.{◌≡◌, ◌++◌, drop}
use Rattle.wild_plan_spec.specs.Layout.{row_names}
use Rattle.wild_plan.proofs.listing.row_names.Given as goal

abbrev pub invariant-loop-row : goal.invariant-loop-row
invariant-loop-row l = l.names ++ row_names (drop l.row-index l.rows) ≡ row_names l.rows
