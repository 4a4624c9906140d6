use Rattle.std.proofs.Common.{inl, inr, append-nil}
use Rattle.wild_plan_text.proofs.Lines.{no_lines}
use Rattle.wild_plan_text.proofs.text.push_input_lines.Goals as goal

-- one of the two slices has ended
pub returns : goal.returns
returns c =
    let ended = no_lines c.args.sections.now c.loop-row.row-iterator.count _ _ (elim c.in-None.ensures.steps.0 [ inl first ↦ inl first.1.0 | inr second ↦ inr second.1.0 ]) in
    rw (ended, append-nil) at c.loop-row.invariant
