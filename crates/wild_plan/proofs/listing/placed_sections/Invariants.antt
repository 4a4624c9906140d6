use Rattle.std.proofs.Common.{◌≡◌, ◌++◌, drop}
use Rattle.wild_eval.specs.Addresses.{known_of}
use Rattle.wild_plan_spec.specs.Layout.{placed_sections}
use Rattle.wild_plan.specs.Facts.{shown_all}
use Rattle.wild_plan.proofs.listing.placed_sections.Given as goal

abbrev pub invariant-loop-number : goal.invariant-loop-number
invariant-loop-number l = l.placed ++ placed_sections (known_of l.addresses) l.number (shown_all (drop l.number l.facts)) ≡ placed_sections (known_of l.addresses) 0 (shown_all l.facts)
