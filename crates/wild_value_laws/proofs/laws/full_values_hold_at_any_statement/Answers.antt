use Rattle.wild_value_laws.proofs.Statements.{full_values_hold_at_any_statement}
use Rattle.wild_value_laws.proofs.laws.full_values_hold_at_any_statement.Goals as goal

pub returns : goal.returns
returns c = full_values_hold_at_any_statement
