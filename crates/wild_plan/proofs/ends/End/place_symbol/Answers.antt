use Rattle.wild_plan_spec.specs.Symbols.{place_symbol}
use Rattle.wild_plan.proofs.ends.End.place_symbol.Goals as goal

pub returns-in-Wait-clause-symbol : goal.returns-in-Wait-clause-symbol
unfolding place_symbol
returns-in-Wait-clause-symbol c = rw c.in-Wait.is c.task_symbol.ensures.symbol
