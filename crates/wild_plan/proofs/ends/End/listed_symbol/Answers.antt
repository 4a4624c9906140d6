use Rattle.std.proofs.lemmas.Result.{err_from_is_err_and}
use Rattle.wild_plan_spec.specs.Points.{task_point}
use Rattle.wild_plan_spec.specs.Symbols.{listed_symbol}
use Rattle.wild_plan.proofs.Named.{fails_on}
use Rattle.wild_plan.proofs.ends.End.listed_symbol.Goals as goal

pub returns-clause-symbol : goal.returns-clause-symbol
unfolding listed_symbol
returns-clause-symbol c =
    let value = c.in_ok-address.ensures.value c.args.expression.now (task_point c.args.place c.args.stand c.args.expression.now) c.requires.defined in
    rw (value, c.in_ok-copy.ensures, c.holder.ensures)

pub returns-in_err-address-clause-symbol : goal.returns-in_err-address-clause-symbol
unfolding listed_symbol
returns-in_err-address-clause-symbol c =
    let p = err_from_is_err_and c.from_residual.result c.from_residual.ensures.1 in
    rw (p.1, p.2) (fails_on _ _ _ (c.in_err-address.ensures.value c.args.expression.now (task_point c.args.place c.args.stand c.args.expression.now) c.requires.defined))
