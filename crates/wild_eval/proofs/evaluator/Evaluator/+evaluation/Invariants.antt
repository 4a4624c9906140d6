use Rattle.std.proofs.Common.{◌+◌, ◌*◌}
use Rattle.wild_eval.proofs.evaluator.Evaluator.+evaluation.Given as goal

abbrev pub decreases-value : goal.decreases-value
decreases-value g l = 8 * l.levels

abbrev pub decreases-node : goal.decreases-node
decreases-node g l = 8 * l.levels + 7

abbrev pub decreases-arithmetic_value : goal.decreases-arithmetic_value
decreases-arithmetic_value g l = 8 * l.levels + 6

abbrev pub decreases-division_value : goal.decreases-division_value
decreases-division_value g l = 8 * l.levels + 6

abbrev pub decreases-comparison_value : goal.decreases-comparison_value
decreases-comparison_value g l = 8 * l.levels + 6

abbrev pub decreases-connective_value : goal.decreases-connective_value
decreases-connective_value g l = 8 * l.levels + 6

abbrev pub decreases-unary_value : goal.decreases-unary_value
decreases-unary_value g l = 8 * l.levels + 6

abbrev pub decreases-ternary_value : goal.decreases-ternary_value
decreases-ternary_value g l = 8 * l.levels + 6

abbrev pub decreases-align_value : goal.decreases-align_value
decreases-align_value g l = 8 * l.levels + 6

abbrev pub decreases-subject : goal.decreases-subject
decreases-subject g l = 8 * l.levels + 5

abbrev pub decreases-segment_value : goal.decreases-segment_value
decreases-segment_value g l = 8 * l.levels + 6

abbrev pub decreases-assert_value : goal.decreases-assert_value
decreases-assert_value g l = 8 * l.levels + 6

abbrev pub decreases-symbol : goal.decreases-symbol
decreases-symbol g l = 8 * l.levels + 6

abbrev pub decreases-symbol_at : goal.decreases-symbol_at
decreases-symbol_at g l = 8 * l.levels + 5

abbrev pub decreases-whole : goal.decreases-whole
decreases-whole g l = 8 * l.levels + 4

abbrev pub decreases-worked : goal.decreases-worked
decreases-worked g l = 8 * l.levels + 3

abbrev pub decreases-found : goal.decreases-found
decreases-found g l = 8 * l.levels + 2
