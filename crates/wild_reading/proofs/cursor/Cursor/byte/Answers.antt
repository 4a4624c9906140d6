use Rattle.std.proofs.Common.{◌≡◌, true, arith, rules}
use Rattle.wild_reading.specs.Bytes.{begins}
use Rattle.wild_reading.proofs.Marks.{marked}
use Rattle.wild_reading.proofs.cursor.Cursor.byte.Goals as goal

-- the byte counts, if it is a mark
pub returns-clause-marked : goal.returns-clause-marked
returns-clause-marked c = λ m.
    let stands : begins c.args.byte c.self.inside.bytes.now c.self.inside.at ≡ true = search rules in
    record { paid = omega (arith, c.self.invariant, marked c.args.byte c.self.inside.bytes.now c.self.inside.at stands m) }
