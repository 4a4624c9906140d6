use Rattle.std.proofs.lemmas.Result.{on_ok_weaker}
use Rattle.wild_eval.proofs.Asked.{with_start}
use Rattle.wild_eval.proofs.addresses.Addresses.learn_start.Goals as goal

pub returns : goal.returns
returns c = on_ok_weaker _ (with_start c.args.self.now c.learn.new.known c.args.«section» c.args.number) c.learn.ensures
