-- The parts of a script, what is checked of them, and where rows go by them.
use Rattle.std.proofs.Common.{◌∙◌, List, ap, map}
use Rattle.wild_plan_spec.specs.Fates.{names_of}
use Rattle.wild_plan_spec.specs.Headers.{header_of}
use Rattle.wild_plan_spec.specs.Places.{Place}
use Rattle.wild_plan_spec.specs.Regions.{names_in, region_of}
use Rattle.wild_plan_spec.specs.Rules.{rules_in}
use Rattle.wild_fates.specs.Parts.{headers_list, memory_in}
use Rattle.wild_fates.specs.Targets.{targets}
use Rattle.wild_fates.specs.Shown.{shown_places}
use Rattle.wild_fates.proofs.Failing.{exits}
use Rattle.wild_fates.proofs.Parts.{are_fates}
use Rattle.wild_fates.proofs.script_fates.decide_fates.Goals as goal

pub returns-in_err-checked-clause-passes : goal.returns-in_err-checked-clause-passes
returns-in_err-checked-clause-passes c =
    let places = ap shown_places c.as_slice.ensures ∙ c.in_ok-parts.ensures.places in
    let sections = ap targets c.as_slice-2.ensures ∙ c.in_ok-parts.ensures.sections in
    exits _ _ c.from_residual-in_err-checked.ensures.1 (rw (places, sections) at c.in_err-checked.ensures.passes.err)

pub returns-clause-passes : goal.returns-clause-passes
returns-clause-passes c =
    let places = ap shown_places c.as_slice.ensures ∙ c.in_ok-parts.ensures.places in
    let sections = ap targets c.as_slice-2.ensures ∙ c.in_ok-parts.ensures.sections in
    record { ok = rw (places, sections) at c.in_ok-checked.ensures.passes.ok; err = tt }

pub returns-clause-fates : goal.returns-clause-fates
returns-clause-fates c =
    let places = ap shown_places c.as_slice.ensures ∙ c.in_ok-parts.ensures.places in
    let sections = ap targets c.as_slice-2.ensures ∙ c.in_ok-parts.ensures.sections in
    let regions = c.in_ok-checked.ensures.regions ∙ ap (λ (ps : List Place). map region_of (memory_in ps).regions) places in
    let region_names = c.in_ok-checked.ensures.region_names ∙ ap (λ (ps : List Place). names_in (memory_in ps).regions) places in
    let headers = c.in_ok-checked.ensures.headers ∙ ap (λ (ps : List Place). map header_of (headers_list ps).headers) places in
    let own = c.in_ok-checked.ensures.own ∙ ap names_of sections in
    let rules = c.in_ok-checked.ensures.rules ∙ ap rules_in places in
    are_fates c.args.commands.now c.args.inputs.now _ _ _ _ _ _ c.in_ok-fates.fates c.in_ok-fates.ensures c.in_ok-parts.ensures regions region_names headers rules own c.as_slice-3.ensures
