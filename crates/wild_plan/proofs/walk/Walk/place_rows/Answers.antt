use Rattle.std.proofs.Common.{◌+◌, ◌∷◌, ◌∙◌, sym, drop, ap}
use Rattle.std.proofs.lemmas.List.{at_drop_more}
use Rattle.wild_value_spec.specs.Answer.{◌>>=◌}
use Rattle.wild_plan_spec.specs.Steps.{rows_placed}
use Rattle.wild_plan.specs.Moves.{state_of}
use Rattle.wild_plan.proofs.walk.Walk.place_rows.Goals as goal

pub loop-row-preserved : goal.loop-row-preserved
loop-row-preserved c =
    let rows = c.args.rows.now in
    let i = c.loop-row.row-index in
    let item = c.row-item.result in
    let left = at_drop_more (λ rs. rows_placed rs (state_of c.loop-row.self)) rows i item c.loop-row-test.true in
    let here = ap (λ r. rows_placed (r ∷ drop (i + 1) rows) (state_of c.loop-row.self)) c.row-item.is in
    let moved = ap (λ r. r >>= rows_placed (drop (i + 1) rows)) c.in_ok-place_row.ensures in
    sym moved ∙ here ∙ sym left ∙ c.loop-row.invariant
