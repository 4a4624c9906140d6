use Rattle.std.proofs.Common.{◌≡◌, drop, max}
use Rattle.wild_plan_spec.specs.Chunks.{largest}
use Rattle.wild_plan.proofs.walk.largest.Given as goal

abbrev pub invariant-loop-row : goal.invariant-loop-row
invariant-loop-row l = max l.most (largest (drop l.row-index l.rows)) ≡ largest l.rows
