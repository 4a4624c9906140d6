use Rattle.std.proofs.Common.{sym}
use Rattle.wild_reading.proofs.Readers.{until_step, until_only, until_refuses, answers_ok, answers_err}
use Rattle.wild_reading.proofs.many.read_until.Goals as goal

pub items-preserved : goal.items-preserved
items-preserved g c = until_step c.in_ok-push.ensures.ok c.items.invariant (sym c.items-test.ensures) c.in_ok-item.ensures.read.ok

pub returns : goal.returns
returns g c = answers_ok (until_only c.items.invariant (sym c.items-test.ensures))

pub returns-in_err-item : goal.returns-in_err-item
returns-in_err-item g c = answers_err c.from_residual.ensures.1 (until_refuses c.items.invariant (sym c.items-test.ensures) c.in_err-item.ensures.read.err)
