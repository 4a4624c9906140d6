use Rattle.std.proofs.Common.{◌≡◌, ◌+◌, ◌∷◌, ◌++◌, drop}
use Rattle.wild_segments.specs.Runs.{following}
use Rattle.wild_segments.proofs.run.run_sections.Given as goal

abbrev pub invariant-loop-number : goal.invariant-loop-number
invariant-loop-number l =
    l.run ++ following l.kind l.last l.number (drop l.number l.members) ≡ l.first ∷ following l.kind l.initial.last (l.first + 1) (drop (l.first + 1) l.members)
