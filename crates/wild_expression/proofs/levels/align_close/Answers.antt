use Rattle.wild_reading.proofs.Marks.{paid_on}
use Rattle.wild_expression.proofs.Weights.{covered_as}
use Rattle.wild_expression.proofs.levels.align_close.Goals as goal

pub returns-clause-paid : goal.returns-clause-paid
returns-clause-paid c = covered_as c.in_ok-aligned.ensures (paid_on c.in_ok-close.ensures.ok c.requires.paid)
