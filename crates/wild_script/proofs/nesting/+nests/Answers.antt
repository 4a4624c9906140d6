use Rattle.std.proofs.Common.{sym}
use Rattle.wild_reading.proofs.Readers.{until_step, until_only, until_refuses, answers_ok, answers_err, deeper_only, deeper_refuses, full_refuses}
use Rattle.wild_expression_words.specs.Dialect.{first_grammar}
use Rattle.wild_script.specs.Nest.{list, list_of, command}
use Rattle.wild_script.proofs.Nests.{list_inner}
use Rattle.wild_script.proofs.nesting.+nests.Goals as goal

pub inner_list-returns-in_err-enter : goal.inner_list-returns-in_err-enter
inner_list-returns-in_err-enter t c = answers_err c.from_residual.ensures.1 (full_refuses (list_inner first_grammar) c.in_err-enter.ensures.err)

pub inner_list-returns-in_err-commands : goal.inner_list-returns-in_err-commands
inner_list-returns-in_err-commands t c = answers_err c.from_residual-in_err-commands.ensures.1 (deeper_refuses (list_inner first_grammar) c.in_ok-enter.ensures.ok c.in_err-commands.ensures.err)

pub inner_list-returns : goal.inner_list-returns
inner_list-returns t c = answers_ok (deeper_only (list_inner first_grammar) c.in_ok-enter.ensures.ok c.in_ok-commands.ensures.ok c.leave.ensures)

pub list-commands-preserved : goal.list-commands-preserved
list-commands-preserved t c = until_step c.in_ok-push.ensures.ok c.commands.invariant (sym c.commands-test.ensures) c.in_ok-item.ensures.read.ok

pub list-returns-in_err-item : goal.list-returns-in_err-item
unfolding list list_of command
list-returns-in_err-item t c = answers_err c.from_residual.ensures.1 (until_refuses c.commands.invariant (sym c.commands-test.ensures) c.in_err-item.ensures.read.err)

pub list-returns : goal.list-returns
unfolding list list_of command
list-returns t c = answers_ok (until_only c.commands.invariant (sym c.commands-test.ensures))
