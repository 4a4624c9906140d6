use Rattle.wild_reading.specs.Position.{ahead}
use Rattle.wild_reading.specs.Bytes.{is_end}
use Rattle.wild_reading.proofs.Readers.{Continues}
use Rattle.wild_expression_words.specs.Dialect.{first_grammar}
use Rattle.wild_script.specs.Nest.{command}
use Rattle.wild_script.proofs.script.commands.Given as goal

abbrev pub invariant-commands : goal.invariant-commands
invariant-commands l = Continues is_end (command first_grammar) l.fn.cursor l.all l.cursor

abbrev pub decreases-commands : goal.decreases-commands
decreases-commands l = ahead l.cursor
