use Rattle.wild_reading.proofs.Readers.{answers_ok, bind_only, give_only}
use Rattle.wild_script.specs.Outermost.{provide_command}
use Rattle.wild_script.proofs.outermost.provide_command.Goals as goal

pub returns : goal.returns
unfolding provide_command
returns c = answers_ok (bind_only c.in_ok-provide.ensures.read.ok give_only)
