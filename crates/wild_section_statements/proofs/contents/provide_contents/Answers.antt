use Rattle.wild_reading.proofs.Readers.{answers_ok, bind_only, give_only}
use Rattle.wild_section_statements.specs.Contents.{provide_contents}
use Rattle.wild_section_statements.proofs.contents.provide_contents.Goals as goal

pub returns : goal.returns
unfolding provide_contents
returns c = answers_ok (bind_only c.in_ok-provide.ensures.read.ok give_only)
