use Rattle.wild_reading.proofs.Readers.{answers_ok, bind_only, give_by}
use Rattle.wild_expression.specs.Grammar.{inner_by, inner_value}
use Rattle.wild_statements.specs.Assignment.{changed_value}
use Rattle.wild_statements.proofs.assignment.changed_value.Goals as goal

pub returns-clause-read : goal.returns-clause-read
unfolding changed_value inner_by inner_value
returns-clause-read c = answers_ok (bind_only c.in_ok-operator.ensures.read.ok (bind_only c.in_ok-symbol.ensures.read.ok (bind_only c.in_ok-operand.ensures.read.ok (give_by c.in_ok-value.ensures))))
