use Rattle.wild_reading.proofs.Readers.{answers_ok, bind_only, give_only}
use Rattle.wild_section_statements.specs.Statement.{assert_statement}
use Rattle.wild_section_statements.proofs.statement.assert_statement.Goals as goal

pub returns : goal.returns
unfolding assert_statement
returns c = answers_ok (bind_only c.in_ok-body.ensures.read.ok give_only)
