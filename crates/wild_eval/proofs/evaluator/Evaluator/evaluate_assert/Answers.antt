use Rattle.wild_eval.proofs.Evaluated.{assert_evaluates, assert_once}
use Rattle.wild_eval.proofs.evaluator.Evaluator.evaluate_assert.Goals as goal

pub returns-clause-answer : goal.returns-clause-answer
returns-clause-answer g c = assert_evaluates c.args.self.now c.args.memo.now c.assert_value.new.memo c.args.steps.now c.assert_value.new.steps c.requires c.args.command.now c.args.point c.assert_value.result (rw c.tick.ensures at c.assert_value.ensures.value)

pub returns-clause-once : goal.returns-clause-once
returns-clause-once g c = assert_once c.args.self.now c.args.memo.now c.assert_value.new.memo c.args.steps.now c.assert_value.new.steps c.requires c.args.command.now c.args.point c.assert_value.result (rw c.tick.ensures at c.assert_value.ensures.value)
