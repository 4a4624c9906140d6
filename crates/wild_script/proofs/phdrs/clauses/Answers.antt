use Rattle.std.proofs.Common.{sym}
use Rattle.wild_reading.proofs.Readers.{answers_ok, answers_err}
use Rattle.wild_reading.proofs.Families.{fold_start, fold_step, fold_only, fold_refuses}
use Rattle.wild_script.specs.Phdrs.{clauses}
use Rattle.wild_script.proofs.phdrs.clauses.Goals as goal

pub clauses-init : goal.clauses-init
clauses-init c = fold_start

pub clauses-preserved : goal.clauses-preserved
clauses-preserved c = fold_step c.clauses.invariant (sym c.clauses-test.ensures) c.in_ok-whole.ensures.read.ok

pub returns-in_err-whole : goal.returns-in_err-whole
unfolding clauses
returns-in_err-whole c = answers_err c.from_residual.ensures.1 (fold_refuses c.clauses.invariant (sym c.clauses-test.ensures) c.in_err-whole.ensures.read.err)

pub returns : goal.returns
unfolding clauses
returns c = answers_ok (fold_only c.clauses.invariant (sym c.clauses-test.ensures))
