use Rattle.std.proofs.Common.{◌≡◌, ◌++◌, drop}
use Rattle.wild_fates.specs.Decisions.{with_rows, decisions}
use Rattle.wild_fates.proofs.fates.decide_rows.Given as goal

abbrev pub invariant-loop-row : goal.invariant-loop-row
invariant-loop-row l = (with_rows l.rules l.sections (drop l.row-index l.rows) ≡ with_rows l.rules l.fn.own l.rows) × (l.all ++ decisions l.rules (drop l.row-index l.rows) ≡ decisions l.rules l.rows)
