use Rattle.wild_eval.proofs.Evaluated.{value_evaluates, value_once}
use Rattle.wild_eval.proofs.evaluator.Evaluator.evaluate.Goals as goal

pub returns-clause-answer : goal.returns-clause-answer
returns-clause-answer g c = value_evaluates c.args.self.now c.args.memo.now c.node.new.memo c.args.steps.now c.node.new.steps c.requires c.args.expression.now c.args.point c.node.result (rw c.tick.ensures at c.node.ensures.value)

pub returns-clause-once : goal.returns-clause-once
returns-clause-once g c = value_once c.args.self.now c.args.memo.now c.node.new.memo c.args.steps.now c.node.new.steps c.requires c.args.expression.now c.args.point c.node.result (rw c.tick.ensures at c.node.ensures.value)
