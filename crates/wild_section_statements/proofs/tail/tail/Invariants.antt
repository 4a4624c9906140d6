use Rattle.wild_reading.specs.Position.{ahead}
use Rattle.wild_reading.proofs.Families.{GoesOn}
use Rattle.wild_expression_words.specs.Dialect.{first_grammar}
use Rattle.wild_section_statements.specs.Tail.{ends_tail, tail_item}
use Rattle.wild_section_statements.proofs.tail.tail.Given as goal

abbrev pub invariant-tail : goal.invariant-tail
invariant-tail l = GoesOn ends_tail (tail_item first_grammar) l.fn.section l.fn.cursor l.whole l.cursor

abbrev pub decreases-tail : goal.decreases-tail
decreases-tail l = ahead l.cursor
