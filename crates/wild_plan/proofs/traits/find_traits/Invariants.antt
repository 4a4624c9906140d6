use Rattle.std.proofs.Common.{drop}
use Rattle.wild_plan.specs.Traits.{traits_of, traits_at}
use Rattle.wild_plan_spec.specs.Chunks.{section_rows}
use Rattle.wild_plan.proofs.Joined.{Noted}
use Rattle.wild_plan.proofs.traits.find_traits.Given as goal

abbrev pub invariant-loop-index : goal.invariant-loop-index
invariant-loop-index l = Noted (traits_at l.traits) (drop l.index l.rows) (drop l.index l.fates) (λ s. traits_of (section_rows s l.rows l.fates))
