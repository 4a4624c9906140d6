use Rattle.std.proofs.Common.{sym}
use Rattle.wild_reading.proofs.Families.{fold_step, fold_only, fold_refuses}
use Rattle.wild_reading.proofs.Readers.{answers_ok, answers_err}
use Rattle.wild_section_statements.specs.Tail.{tail}
use Rattle.wild_section_statements.proofs.tail.tail.Goals as goal

pub tail-preserved : goal.tail-preserved
tail-preserved c = fold_step c.tail.invariant (sym c.tail-test.ensures) c.in_ok-whole.ensures.read.ok

pub returns-in_err-whole : goal.returns-in_err-whole
unfolding tail
returns-in_err-whole c = answers_err c.from_residual.ensures.1 (fold_refuses c.tail.invariant (sym c.tail-test.ensures) c.in_err-whole.ensures.read.err)

pub returns : goal.returns
unfolding tail
returns c = answers_ok (fold_only c.tail.invariant (sym c.tail-test.ensures))
