-- What is left of the depth, then the level, then the order of the calls.
use Rattle.std.proofs.Common.{◌+◌, ◌*◌, ◌≤◌}
use Rattle.wild_reading.specs.Position.{ahead}
use Rattle.wild_reading.proofs.Families.{GoesOn}
use Rattle.wild_expression_words.specs.Operators.{ends}
use Rattle.wild_expression.specs.Grammar.{step, IsCovered}
use Rattle.wild_expression.proofs.Layers.{rank}
use Rattle.wild_expression.proofs.levels.+levels.Given as goal

abbrev pub decreases-enclosed : goal.decreases-enclosed
decreases-enclosed l = 64 * l.cursor.now.left

abbrev pub decreases-inner_value : goal.decreases-inner_value
decreases-inner_value l = 64 * l.cursor.now.left + 1

abbrev pub decreases-brackets : goal.decreases-brackets
decreases-brackets l = 64 * l.cursor.now.left + 2

abbrev pub decreases-pair : goal.decreases-pair
decreases-pair l = 64 * l.cursor.now.left + 2

abbrev pub decreases-align_comma : goal.decreases-align_comma
decreases-align_comma l = 64 * l.cursor.now.left + 2

abbrev pub decreases-align_rest : goal.decreases-align_rest
decreases-align_rest l = 64 * l.cursor.now.left + 3

abbrev pub decreases-align : goal.decreases-align
decreases-align l = 64 * l.cursor.now.left + 4

abbrev pub decreases-segment_start : goal.decreases-segment_start
decreases-segment_start l = 64 * l.cursor.now.left + 2

abbrev pub decreases-assertion : goal.decreases-assertion
decreases-assertion l = 64 * l.cursor.now.left + 2

abbrev pub decreases-arguments : goal.decreases-arguments
decreases-arguments l = 64 * l.cursor.now.left + 5

abbrev pub decreases-after_head : goal.decreases-after_head
decreases-after_head l = 64 * l.cursor.now.left + 6

abbrev pub decreases-primary : goal.decreases-primary
decreases-primary l = 64 * l.cursor.now.left + 7

abbrev pub decreases-unary : goal.decreases-unary
decreases-unary l = 64 * l.cursor.now.left + 2

abbrev pub decreases-unary_or_primary : goal.decreases-unary_or_primary
decreases-unary_or_primary l = 64 * l.cursor.now.left + 8

abbrev pub decreases-sign_level : goal.decreases-sign_level
decreases-sign_level l = 64 * l.cursor.now.left + 9

abbrev pub decreases-step : goal.decreases-step
decreases-step l = 64 * l.cursor.now.left + 2

abbrev pub decreases-chain : goal.decreases-chain
decreases-chain l = 64 * l.cursor.now.left + 3

abbrev pub decreases-comparison : goal.decreases-comparison
decreases-comparison l = 64 * l.cursor.now.left + 3

abbrev pub decreases-alternatives : goal.decreases-alternatives
decreases-alternatives l = 64 * l.cursor.now.left + 2

abbrev pub decreases-ternary : goal.decreases-ternary
decreases-ternary l = 64 * l.cursor.now.left + 3

abbrev pub decreases-rest : goal.decreases-rest
decreases-rest l = 64 * l.cursor.now.left + 4

abbrev pub decreases-layer : goal.decreases-layer
decreases-layer l = 64 * l.cursor.now.left + 2 * rank l.level + 9

abbrev pub decreases-value : goal.decreases-value
decreases-value l = 64 * l.cursor.now.left + 2 * rank l.level + 10

abbrev pub invariant-chain-chain : goal.invariant-chain-chain
invariant-chain-chain l = record {
  goes : GoesOn (ends l.level) (step l.level) l.fn.first l.fn.cursor l.whole l.cursor;
  deep : l.whole.depth ≤ l.fn.cursor.left;
  paid : IsCovered l.whole.depth l.cursor;
}

abbrev pub decreases-chain-chain : goal.decreases-chain-chain
decreases-chain-chain l = ahead l.cursor
