use Rattle.wild_reading.specs.Position.{ahead}
use Rattle.wild_reading.proofs.Families.{GoesOn}
use Rattle.wild_expression_words.specs.Dialect.{first_grammar}
use Rattle.wild_script.specs.Phdrs.{ends_clauses, clause}
use Rattle.wild_script.proofs.phdrs.clauses.Given as goal

abbrev pub invariant-clauses : goal.invariant-clauses
invariant-clauses l = GoesOn ends_clauses (clause first_grammar) l.fn.header l.fn.cursor l.whole l.cursor

abbrev pub decreases-clauses : goal.decreases-clauses
decreases-clauses l = ahead l.cursor
