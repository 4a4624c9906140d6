use Rattle.wild_reading.specs.Position.{ahead}
use Rattle.wild_reading.proofs.Families.{GoesOn}
use Rattle.wild_expression_words.specs.Dialect.{first_grammar}
use Rattle.wild_reading.specs.Bytes.{begins}
use Rattle.wild_section_statements.specs.Clauses.{clause}
use Rattle.wild_section_statements.proofs.clauses.clauses.Given as goal

abbrev pub invariant-clauses : goal.invariant-clauses
invariant-clauses l = GoesOn (begins 123) (clause first_grammar) l.fn.section l.fn.cursor l.whole l.cursor

abbrev pub decreases-clauses : goal.decreases-clauses
decreases-clauses l = ahead l.cursor
