-- The checks, the segments, the walk, the symbols and conditions, and the lists.
use Rattle.std.proofs.Common.{length, ap, sym, subst, inl, inr, ⊎_elim, ◌∙◌}
use Rattle.std.proofs.lemmas.Result.{err_from_is_err_and}
use Rattle.wild_fates.specs.Shown.{shown_places}
use Rattle.wild_plan_spec.specs.Fates.{section_names}
use Rattle.wild_plan_spec.specs.Ground.{Ground}
use Rattle.wild_walk_laws.specs.Nesting.{Free, Nests}
use Rattle.wild_walk_laws.proofs.Nesting.{places_nest}
use Rattle.wild_plan.specs.Case.{shown_case}
use Rattle.wild_plan.specs.Facts.{shown_all}
use Rattle.wild_plan.proofs.Counting.{are_defined}
use Rattle.wild_plan.proofs.Composing.{walk_refused, end_refused, lists_fit}
use Rattle.wild_plan.proofs.Phases.{all_hold, segments_fail}
use Rattle.wild_plan.proofs.pipeline.script_lists.Goals as goal

pub find_case_segments-requires-clause-facts : goal.find_case_segments-requires-clause-facts
find_case_segments-requires-clause-facts c = ap shown_all c.as_slice.ensures ∙ c.in_ok-basis.ensures.facts

pub lay_out-requires : goal.lay_out-requires
lay_out-requires c =
    let case = shown_case c.args.case.now in
    let places = ap shown_places c.as_slice-places.ensures ∙ c.in_ok-definitions.ensures.sound.fates.places in
    (length (section_names case.commands case.inputs), subst (λ ps. Nests (Free 0) ps (Free (length (section_names case.commands case.inputs)))) (sym places) (places_nest case.commands case.inputs))

pub returns-in_err-segments-clause-refused : goal.returns-in_err-segments-clause-refused
returns-in_err-segments-clause-refused c =
    let p = err_from_is_err_and c.from_residual-in_err-segments.result c.from_residual-in_err-segments.ensures.1 in
    let checked = c.in_ok-definitions.ensures.sound in
    rw (p.1, p.2) (⊎_elim (λ h. inl h)
    (λ h. inr (inl h))
    (segments_fail (shown_case c.args.case.now) checked.table checked.script checked.symbols _ c.in_err-segments.ensures.passes.err))

pub returns-in_err-walk-clause-refused : goal.returns-in_err-walk-clause-refused
returns-in_err-walk-clause-refused c =
    let p = err_from_is_err_and c.from_residual-in_err-walk.result c.from_residual-in_err-walk.ensures.1 in
    let case = shown_case c.args.case.now in
    let checked = c.in_ok-definitions.ensures.sound in
    let sound = all_hold case checked.table checked.script checked.symbols c.in_ok-segments.ensures.passes.ok in
    let basis = c.in_ok-basis.ensures in
    let places = ap shown_places c.as_slice-places.ensures ∙ checked.fates.places in
    rw (p.1, p.2) (⊎_elim (λ h. inl h)
    (λ h. inr (walk_refused case sound _ basis.ordered _ c.ground_on-ground.ensures.ground _ places _ h))
    c.in_err-walk.ensures.refused)

pub returns-in_err-found-clause-refused : goal.returns-in_err-found-clause-refused
returns-in_err-found-clause-refused c =
    let p = err_from_is_err_and c.from_residual-in_err-found.result c.from_residual-in_err-found.ensures.1 in
    let case = shown_case c.args.case.now in
    let checked = c.in_ok-definitions.ensures.sound in
    let sound = all_hold case checked.table checked.script checked.symbols c.in_ok-segments.ensures.passes.ok in
    let basis = c.in_ok-basis.ensures in
    let places = ap shown_places c.as_slice-places.ensures ∙ checked.fates.places in
    rw (p.1, p.2) (⊎_elim (λ h. inl h)
    (λ h. inr (end_refused case sound _ basis.ordered _ c.ground_on-ground.ensures.ground _ places _ c.in_ok-walk.ensures.laid_out _ h))
    c.in_err-found.ensures)

pub returns-clause-fits : goal.returns-clause-fits
returns-clause-fits c =
    let case = shown_case c.args.case.now in
    let checked = c.in_ok-definitions.ensures.sound in
    let sound = all_hold case checked.table checked.script checked.symbols c.in_ok-segments.ensures.passes.ok in
    let basis = c.in_ok-basis.ensures in
    let places = ap shown_places c.as_slice-places.ensures ∙ checked.fates.places in
    lists_fit case sound _ basis.ordered _ c.ground_on-ground.ensures.ground _ places _ c.in_ok-walk.ensures.laid_out _ c.in_ok-found.ensures _ c.in_ok-segments.ensures.segments _ _ _
    (c.as_slice-fates.ensures ∙ checked.fates.fates)
    c.ground_on-ground.ensures.facts
    c.in_ok-lists.ensures

pub final_symbols-requires : goal.final_symbols-requires
final_symbols-requires c =
    let case = shown_case c.args.case.now in
    let checked = c.in_ok-definitions.ensures.sound in
    let places = ap shown_places c.as_slice-places.ensures ∙ checked.fates.places in
    let scope = ap (λ (g : Ground). g.scope) c.ground_on-ground.ensures.ground in
    rw (places, scope) (are_defined case checked.symbols)
