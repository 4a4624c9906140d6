use Rattle.std.proofs.Common.{◌≡◌, length, Some, sym, subst, ap, ◌∙◌, inl, inr, ⊎_elim, arith}
use Rattle.std.proofs.lemmas.Option.{slice_get-get_or}
use Rattle.std.proofs.lemmas.Result.{err_from_is_err_and}
use Rattle.wild_fates.specs.Shown.{shown_places}
use Rattle.wild_fates.proofs.Shown.{shown_at, shown_length}
use Rattle.wild_plan_spec.proofs.Standing.{refuses_at}
use Rattle.wild_plan.specs.Ground.{shown_ground}
use Rattle.wild_plan.specs.Taken.{ends_of}
use Rattle.wild_plan.proofs.Ended.{Ready, ready_first, ready_before, ready_more}
use Rattle.wild_plan.proofs.walk.lay_out.Goals as goal

pub loop-number-init : goal.loop-number-init
loop-number-init c =
    let ground = shown_ground c.args.ground.now in
    let places = shown_places c.args.places.now in
    subst (λ s. Ready ground places 0 s (ends_of c.new-taken.result)) (sym c.in_ok-walk.ensures) (ready_first ground places c.requires.0 (ends_of c.new-taken.result) c.requires.1 c.new-taken.ensures)

pub step-requires : goal.step-requires
step-requires c =
    let there = shown_at c.args.places.now c.loop-number.number _ (slice_get-get_or c.args.places.now _ _ c.loop-number-test.true ∙ ap Some (sym c.index-places-number.is)) in
    ready_before _ _ c.loop-number.number _ _ _ there c.loop-number.invariant

pub loop-number-preserved : goal.loop-number-preserved
loop-number-preserved c =
    let there = shown_at c.args.places.now c.loop-number.number _ (slice_get-get_or c.args.places.now _ _ c.loop-number-test.true ∙ ap Some (sym c.index-places-number.is)) in
    ready_more _ _ c.loop-number.number _ _ _ _ _ there c.loop-number.invariant c.in_ok-step.ensures c.in_ok-note.ensures

pub returns-in_err-step-clause-refused : goal.returns-in_err-step-clause-refused
returns-in_err-step-clause-refused c =
    let p = err_from_is_err_and c.from_residual-in_err-step.result c.from_residual-in_err-step.ensures.1 in
    let there = shown_at c.args.places.now c.loop-number.number _ (slice_get-get_or c.args.places.now _ _ c.loop-number-test.true ∙ ap Some (sym c.index-places-number.is)) in
    rw (p.1, p.2)
    (⊎_elim (λ h. inl h)
    (λ refused. inr (refuses_at _ _ c.loop-number.number _ _ _ c.loop-number.invariant.stands there refused))
    c.in_err-step.ensures)

pub returns-clause-laid_out : goal.returns-clause-laid_out
returns-clause-laid_out c =
    let stands = c.loop-number.invariant.stands in
    let all : c.loop-number.number ≡ length (shown_places c.args.places.now) = omega (arith, stands.within, shown_length c.args.places.now, c.loop-number-test.false) in
    rw all at stands
