use Rattle.wild_reading.proofs.Readers.{answers_ok, bind_only, give_only}
use Rattle.wild_script.specs.Outermost.{assert_command}
use Rattle.wild_script.proofs.outermost.assert_command.Goals as goal

pub returns : goal.returns
unfolding assert_command
returns c = answers_ok (bind_only c.in_ok-body.ensures.read.ok (bind_only c.in_ok-optional_symbol.ensures.ok give_only))
