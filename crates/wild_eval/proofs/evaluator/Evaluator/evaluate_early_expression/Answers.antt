use Rattle.std.proofs.lemmas.Result.{err_from_is_err_and}
use Rattle.wild_value_spec.specs.Value.{full}
use Rattle.wild_eval.proofs.Defined.{gives_returns}
use Rattle.wild_eval.proofs.Evaluated.{evaluates_on, evaluates_err}
use Rattle.wild_eval.proofs.evaluator.Evaluator.evaluate_early_expression.Goals as goal

pub returns-clause-answer : goal.returns-clause-answer
unfolding full
returns-clause-answer g c =
    evaluates_on c.args.self.now _ _ _ _ _ _ _ _ _ c.in_ok-value.ensures.answer (gives_returns _ _ c.full_number.ensures)

pub returns-in_err-value-clause-answer : goal.returns-in_err-value-clause-answer
unfolding full
returns-in_err-value-clause-answer g c =
    let p = err_from_is_err_and c.from_residual.result c.from_residual.ensures.1 in
    rw (p.1, p.2) (evaluates_err c.args.self.now _ _ _ _ _ _ _ _ c.in_err-value.ensures.answer)
