use Rattle.std.proofs.Common.{◌+◌, ◌∷◌, ◌∙◌, sym, drop, ap}
use Rattle.std.proofs.lemmas.List.{at_drop_more}
use Rattle.wild_fates.specs.Shown.{shown_places, shown_place}
use Rattle.wild_plan_spec.specs.Symbols.{symbols}
use Rattle.wild_plan.specs.End as end
use Rattle.wild_plan.specs.Found.{found_then}
use Rattle.wild_plan.proofs.Named.{symbols_more}
use Rattle.wild_plan.proofs.ends.End.symbols.Goals as goal

pub loop-number-preserved : goal.loop-number-preserved
loop-number-preserved c =
    let scope = end.scope c.args.self.now in
    let known = end.known c.args.self.now in
    let places = c.args.places.now in
    let i = c.loop-number.number in
    let found = c.loop-number.found in
    let item = c.index-places-number.result in
    let left = at_drop_more (λ ps. found_then found (symbols scope known i (shown_places ps))) places i item c.loop-number-test.true in
    let here = ap (λ p. found_then found (symbols scope known i (shown_place p ∷ shown_places (drop (i + 1) places)))) c.index-places-number.is in
    let moved = symbols_more scope known i found (shown_place item) (shown_places (drop (i + 1) places)) _ _ c.in_ok-symbol.ensures.symbol c.in_ok-push_listed.ensures in
    (c.in_ok-symbol.ensures.memo, moved ∙ here ∙ sym left ∙ c.loop-number.invariant.1)
