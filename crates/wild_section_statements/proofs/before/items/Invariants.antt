use Rattle.wild_reading.specs.Position.{ahead}
use Rattle.wild_reading.proofs.Families.{GoesOn}
use Rattle.wild_expression_words.specs.Dialect.{first_grammar}
use Rattle.wild_reading.specs.Bytes.{begins}
use Rattle.wild_section_statements.specs.Before.{item}
use Rattle.wild_section_statements.proofs.before.items.Given as goal

abbrev pub invariant-items : goal.invariant-items
invariant-items l = GoesOn (begins 58) (item first_grammar) l.fn.section l.fn.cursor l.whole l.cursor

abbrev pub decreases-items : goal.decreases-items
decreases-items l = ahead l.cursor
