use Rattle.std.proofs.Common.{◌≡◌, ◌++◌, drop}
use Rattle.wild_fates.specs.Decisions.{fates_by}
use Rattle.wild_fates.proofs.fates.fates_by.Given as goal

abbrev pub invariant-loop-i : goal.invariant-loop-i
invariant-loop-i l = l.fates ++ fates_by l.sections (drop l.i l.rows) (drop l.i l.decisions) ≡ fates_by l.sections l.rows l.decisions
