use Rattle.std.proofs.Common.{◌∙◌, sym}
use Rattle.std.proofs.lemmas.Result.{err_from_is_err_and}
use Rattle.wild_eval.proofs.Defined.{symbol_ok, symbol_err}
use Rattle.wild_eval.proofs.evaluator.Evaluator.symbol_apart.Goals as goal

pub returns-clause-answer : goal.returns-clause-answer
returns-clause-answer g c = λ e p defined.
    symbol_ok c.args.self.now c.args.name.now c.in-Some.number e p (sym c.get.ensures ∙ c.in-Some.is) defined c.in_ok-whole.whole c.in_ok-whole.ensures.answer.answer

pub returns-in_err-whole-clause-answer : goal.returns-in_err-whole-clause-answer
returns-in_err-whole-clause-answer g c = λ e p defined.
    let q = err_from_is_err_and c.from_residual.result c.from_residual.ensures.1 in
    rw (q.1, q.2) (symbol_err c.args.self.now c.args.name.now c.in-Some.number e p (sym c.get.ensures ∙ c.in-Some.is) defined c.in_err-whole.field-0.0 c.in_err-whole.ensures.answer.answer)
