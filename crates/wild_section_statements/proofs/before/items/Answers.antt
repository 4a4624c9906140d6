use Rattle.std.proofs.Common.{sym}
use Rattle.wild_reading.proofs.Families.{fold_step, fold_only, fold_refuses}
use Rattle.wild_reading.proofs.Readers.{answers_ok, answers_err}
use Rattle.wild_section_statements.specs.Before.{items}
use Rattle.wild_section_statements.proofs.before.items.Goals as goal

pub items-preserved : goal.items-preserved
items-preserved c = fold_step c.items.invariant (sym c.items-test.ensures) c.in_ok-whole.ensures.read.ok

pub returns-in_err-whole : goal.returns-in_err-whole
unfolding items
returns-in_err-whole c = answers_err c.from_residual.ensures.1 (fold_refuses c.items.invariant (sym c.items-test.ensures) c.in_err-whole.ensures.read.err)

pub returns : goal.returns
unfolding items
returns c = answers_ok (fold_only c.items.invariant (sym c.items-test.ensures))
