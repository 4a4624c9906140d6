use Rattle.std.proofs.Common.{refl}
use Rattle.wild_reading.proofs.Marks.{paid_on}
use Rattle.wild_expression.proofs.Weights.{covered_as}
use Rattle.wild_expression.proofs.levels.ask_name.Goals as goal

pub returns-clause-paid : goal.returns-clause-paid
returns-clause-paid c =
    covered_as c.in_ok-asked.ensures (paid_on c.in_ok-close.ensures.ok (paid_on c.in_ok-white-2.ensures.ok (paid_on c.in_ok-word.ensures.read.ok (paid_on c.in_ok-white.ensures.ok (c.in_ok-byte.ensures.marked refl)))))
