use Rattle.std.proofs.Common.{ap, ◌∙◌}
use Rattle.wild_plan.specs.Case.{shown_case}
use Rattle.wild_plan.specs.Entries.{shown_entries}
use Rattle.wild_plan.specs.Facts.{shown_all}
use Rattle.wild_plan.proofs.Scopes.{ground_said}
use Rattle.wild_plan.proofs.ground.ground_on.Goals as goal

pub returns-clause-facts : goal.returns-clause-facts
returns-clause-facts c = ap shown_all c.as_slice-5.ensures ∙ c.requires.basis.facts

pub returns-clause-ground : goal.returns-clause-ground
returns-clause-ground c =
    let checked = c.requires.checked in
    let basis = c.requires.basis in
    ground_said (shown_case c.args.case.now) _ _ _ _ _ _ _ _ _
    (c.as_slice.ensures ∙ checked.fates.names)
    (c.numbers.ensures ∙ checked.fates.names)
    (c.as_slice-2.ensures ∙ basis.alignments)
    checked.names
    (ap shown_entries c.as_slice-3.ensures ∙ checked.entries)
    checked.fates.region_names
    (c.as_slice-4.ensures ∙ checked.fates.regions)
    (ap shown_all c.as_slice-5.ensures ∙ basis.facts)
