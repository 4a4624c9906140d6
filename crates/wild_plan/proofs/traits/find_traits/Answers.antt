use Rattle.std.proofs.Common.{◌≡◌, ◌∙◌, ◌+◌, ◌∷◌, sym, refl, drop, arith}
use Rattle.std.proofs.lemmas.List.{drop_more, drop_all}
use Rattle.std.proofs.lemmas.Option.{get_or_from_slice_get}
use Rattle.wild_plan.specs.Traits.{traits_of, traits_at}
use Rattle.wild_plan_spec.specs.Chunks.{section_rows}
use Rattle.wild_plan.proofs.Joined.{noted_none, noted_more, noted_all}
use Rattle.wild_plan.proofs.traits.find_traits.Goals as goal

pub loop-index-init : goal.loop-index-init
loop-index-init c = noted_none (traits_at c.new-traits.result) c.args.rows.now c.args.fates.now c.new-traits.ensures

pub loop-index-preserved : goal.loop-index-preserved
loop-index-preserved c =
    let rows = c.args.rows.now in
    let fates = c.args.fates.now in
    let i = c.loop-index.index in
    let row = c.index-rows-index.result in
    let fate = c.fate_at.result in
    let more-rows : drop i rows ≡ row ∷ drop (i + 1) rows = drop_more rows i row c.loop-index-test.true ∙ rw (sym c.index-rows-index.is) refl in
    let more-fates : drop i fates ≡ fate ∷ drop (i + 1) fates = drop_more fates i fate (omega (arith, c.loop-index-test.true, c.requires)) ∙ rw (get_or_from_slice_get fates i fate fate c.fate_at.ensures) refl in
    noted_more (traits_at c.loop-index.traits) (traits_at c.note_kept.new.self) row (drop (i + 1) rows) fate (drop (i + 1) fates) (λ s. traits_of (section_rows s rows fates))
    (rw (more-rows, more-fates) at c.loop-index.invariant) c.in_ok-note_kept.ensures

pub returns : goal.returns
returns c =
    noted_all (traits_at c.loop-index.traits) (drop c.loop-index.index c.args.fates.now) (λ s. traits_of (section_rows s c.args.rows.now c.args.fates.now))
    (rw (drop_all c.loop-index.index c.args.rows.now c.loop-index-test.false) at c.loop-index.invariant)
