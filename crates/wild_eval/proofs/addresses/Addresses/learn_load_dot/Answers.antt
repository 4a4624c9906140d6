use Rattle.std.proofs.lemmas.Result.{on_ok_weaker}
use Rattle.wild_eval.proofs.Asked.{with_load_dot}
use Rattle.wild_eval.proofs.addresses.Addresses.learn_load_dot.Goals as goal

pub returns : goal.returns
returns c = on_ok_weaker _ (with_load_dot c.args.self.now c.learn.new.known c.args.place c.args.number) c.learn.ensures
