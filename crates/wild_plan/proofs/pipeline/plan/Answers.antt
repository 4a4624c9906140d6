use Rattle.std.proofs.Common.{inl, inr, ⊎_elim}
use Rattle.std.proofs.lemmas.Result.{err_from_is_err_and}
use Rattle.wild_plan.proofs.Composing.{the_plan, the_fault}
use Rattle.wild_plan.proofs.pipeline.plan.Goals as goal

pub returns-clause-fits : goal.returns-clause-fits
returns-clause-fits c =
    rw c.new.ensures (the_plan c.args.script.now c.args.inputs.now c.args.options.now c.in_ok-tree.tree c.in_ok-tree.ensures.found _ (rw c.as_slice.ensures at c.in_ok-lists.ensures.fits))

pub returns-in_err-lists-clause-refused : goal.returns-in_err-lists-clause-refused
returns-in_err-lists-clause-refused c =
    let p = err_from_is_err_and c.from_residual-in_err-lists.result c.from_residual-in_err-lists.ensures.1 in
    rw (p.1, p.2) (⊎_elim (λ h. inl h)
    (λ h. inr (the_fault c.args.script.now c.args.inputs.now c.args.options.now c.in_ok-tree.tree c.in_ok-tree.ensures.found _ (rw c.as_slice.ensures at h)))
    c.in_err-lists.ensures.refused)
