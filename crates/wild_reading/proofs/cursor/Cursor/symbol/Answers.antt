use Rattle.wild_reading.proofs.Marks.{paid_on}
use Rattle.wild_reading.proofs.cursor.Cursor.symbol.Goals as goal

pub returns-clause-marked : goal.returns-clause-marked
returns-clause-marked c = λ m. paid_on c.in_ok-gap.ensures.ok (c.in_ok-byte.ensures.marked m)
