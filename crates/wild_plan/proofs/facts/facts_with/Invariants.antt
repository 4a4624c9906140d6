use Rattle.std.proofs.Common.{◌≡◌, ◌++◌, drop}
use Rattle.wild_fates.specs.Targets.{targets}
use Rattle.wild_plan.specs.Facts.{facts_with, shown_all}
use Rattle.wild_plan.specs.Traits.{traits_at}
use Rattle.wild_plan.proofs.facts.facts_with.Given as goal

abbrev pub invariant-loop-number : goal.invariant-loop-number
invariant-loop-number l =
    shown_all l.facts ++ facts_with (targets l.sections) (targets l.headers) (traits_at l.traits) l.number (targets (drop l.number l.names)) ≡ facts_with (targets l.sections) (targets l.headers) (traits_at l.traits) 0 (targets l.names)
