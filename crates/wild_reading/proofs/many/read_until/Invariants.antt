use Rattle.wild_reading.specs.Position.{ahead}
use Rattle.wild_reading.specs.Bytes.{begins}
use Rattle.wild_reading.proofs.Readers.{Continues}
use Rattle.wild_reading.proofs.many.read_until.Given as goal

abbrev pub invariant-items : goal.invariant-items
invariant-items g l = Continues (begins l.fn.close) g.G.Grammar.reads l.fn.cursor l.items l.cursor

abbrev pub decreases-items : goal.decreases-items
decreases-items g l = ahead l.cursor
