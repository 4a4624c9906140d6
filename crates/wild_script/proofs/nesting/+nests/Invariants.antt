-- What is left of the depth, then the order of the calls.
use Rattle.std.proofs.Common.{◌+◌, ◌*◌}
use Rattle.wild_reading.specs.Position.{ahead}
use Rattle.wild_reading.specs.Bytes.{begins}
use Rattle.wild_reading.proofs.Readers.{Continues}
use Rattle.wild_expression_words.specs.Dialect.{first_grammar}
use Rattle.wild_script.specs.Nest.{command}
use Rattle.wild_script.proofs.nesting.+nests.Given as goal

abbrev pub decreases-inner_list : goal.decreases-inner_list
decreases-inner_list l = 8 * l.cursor.now.left

abbrev pub decreases-nest : goal.decreases-nest
decreases-nest l = 8 * l.cursor.now.left + 1

abbrev pub decreases-word_command : goal.decreases-word_command
decreases-word_command l = 8 * l.cursor.now.left + 2

abbrev pub decreases-after_word : goal.decreases-after_word
decreases-after_word l = 8 * l.cursor.now.left + 3

abbrev pub decreases-command : goal.decreases-command
decreases-command l = 8 * l.cursor.now.left + 4

abbrev pub decreases-list : goal.decreases-list
decreases-list l = 8 * l.cursor.now.left + 5

abbrev pub invariant-list-commands : goal.invariant-list-commands
invariant-list-commands l = Continues (begins 41) (command first_grammar) l.fn.cursor l.all l.cursor

abbrev pub decreases-list-commands : goal.decreases-list-commands
decreases-list-commands l = ahead l.cursor
