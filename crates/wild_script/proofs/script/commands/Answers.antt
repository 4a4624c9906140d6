use Rattle.std.proofs.Common.{sym}
use Rattle.wild_reading.proofs.Readers.{until_step, until_only, until_refuses, answers_ok, answers_err}
use Rattle.wild_script.specs.Tree.{commands}
use Rattle.wild_script.proofs.script.commands.Goals as goal

pub commands-preserved : goal.commands-preserved
commands-preserved c = until_step c.in_ok-push.ensures.ok c.commands.invariant (sym c.commands-test.ensures) c.in_ok-command.ensures.read.ok

pub returns-in_err-command : goal.returns-in_err-command
unfolding commands
returns-in_err-command c = answers_err c.from_residual.ensures.1 (until_refuses c.commands.invariant (sym c.commands-test.ensures) c.in_err-command.ensures.read.err)

pub returns : goal.returns
unfolding commands
returns c = answers_ok (until_only c.commands.invariant (sym c.commands-test.ensures))
