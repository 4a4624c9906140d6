use Rattle.wild_reading.proofs.Readers.{answers_ok, bind_only, give_only}
use Rattle.wild_expression.specs.Grammar.{value, value_by}
use Rattle.wild_expression.specs.Parts.{expression}
use Rattle.wild_expression.proofs.parts.expression.Goals as goal

pub returns-clause-read : goal.returns-clause-read
unfolding expression value value_by
returns-clause-read c = answers_ok (bind_only c.in_ok-x.ensures.read.ok give_only)
