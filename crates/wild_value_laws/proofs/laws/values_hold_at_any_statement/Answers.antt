use Rattle.wild_value_laws.proofs.Statements.{values_hold_at_any_statement}
use Rattle.wild_value_laws.proofs.laws.values_hold_at_any_statement.Goals as goal

pub returns : goal.returns
returns c = values_hold_at_any_statement
