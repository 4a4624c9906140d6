use Rattle.wild_eval.proofs.Evaluated.{new_memo}
use Rattle.wild_eval.proofs.evaluator.Evaluator.memo.Goals as goal

pub returns : goal.returns
returns c = rw c.new.ensures (new_memo c.args.self.now)
