use Rattle.wild_expression.proofs.Positions.{one_expression, no_expression}
use Rattle.wild_expression.proofs.readings.parse_expression.Goals as goal

pub returns-in-Ok-clause-found : goal.returns-in-Ok-clause-found
returns-in-Ok-clause-found c =
    one_expression c.new-cursor.ensures.text c.new-cursor.ensures.at c.new-cursor.ensures.left c.into_inner.ensures c.position.ensures.value c.position.ensures.within c.in-Ok.ensures.shorter c.in-Ok.ensures.read.ok

pub returns-in-Err-clause-refused : goal.returns-in-Err-clause-refused
returns-in-Err-clause-refused c = rw c.plain_fault.ensures (no_expression c.new-cursor.ensures.text c.new-cursor.ensures.at c.new-cursor.ensures.left _ c.in-Err.ensures.read.err)
