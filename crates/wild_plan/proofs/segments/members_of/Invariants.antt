use Rattle.std.proofs.Common.{◌≡◌, ◌++◌, map, drop}
use Rattle.wild_plan_spec.specs.Segments.{member_of}
use Rattle.wild_plan.specs.Facts.{shown_all}
use Rattle.wild_plan.proofs.segments.members_of.Given as goal

abbrev pub invariant-loop-section : goal.invariant-loop-section
invariant-loop-section l = l.members ++ map member_of (shown_all (drop l.section-index l.facts)) ≡ map member_of (shown_all l.facts)
