use Rattle.wild_reading.proofs.Readers.{answers_ok, bind_only, give_only}
use Rattle.wild_section_statements.specs.Contents.{assert_contents}
use Rattle.wild_section_statements.proofs.contents.assert_contents.Goals as goal

pub returns : goal.returns
unfolding assert_contents
returns c = answers_ok (bind_only c.in_ok-body.ensures.read.ok (bind_only c.in_ok-optional_symbol.ensures.ok give_only))
