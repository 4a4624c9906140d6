use Rattle.std.proofs.Common.{◌≡◌, ◌++◌, [], drop}
use Rattle.wild_plan_spec.specs.Checks.{place_checks, failing}
use Rattle.wild_fates.specs.Numbered.{numbered_rules, chunks_in}
use Rattle.wild_fates.specs.Shown.{shown_places}
use Rattle.wild_fates.proofs.rules.number_rules.Given as goal

abbrev pub invariant-loop-statement : goal.invariant-loop-statement
invariant-loop-statement l =
    (l.numbered.rules ++ numbered_rules l.numbered.chunks (shown_places (drop l.statement l.places)) ≡ numbered_rules [] (shown_places l.places))
    × (l.numbered.chunks ++ chunks_in (shown_places (drop l.statement l.places)) ≡ chunks_in (shown_places l.places))
    × (failing (place_checks l.options l.statement (shown_places (drop l.statement l.places))) ≡ failing (place_checks l.options 0 (shown_places l.places)))
