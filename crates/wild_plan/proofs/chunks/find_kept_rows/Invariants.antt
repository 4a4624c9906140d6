use Rattle.std.proofs.Common.{◌≡◌, ◌++◌, drop}
use Rattle.wild_plan_spec.specs.Chunks.{kept_rows}
use Rattle.wild_plan.proofs.chunks.find_kept_rows.Given as goal

abbrev pub invariant-loop-i : goal.invariant-loop-i
invariant-loop-i l = l.kept.items ++ kept_rows l.i (drop l.i l.rows) (drop l.i l.fates) ≡ kept_rows 0 l.rows l.fates
