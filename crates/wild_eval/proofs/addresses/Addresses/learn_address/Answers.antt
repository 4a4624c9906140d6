use Rattle.std.proofs.lemmas.Result.{on_ok_weaker}
use Rattle.wild_eval.proofs.Asked.{with_address}
use Rattle.wild_eval.proofs.addresses.Addresses.learn_address.Goals as goal

pub returns : goal.returns
returns c = on_ok_weaker _ (with_address c.args.self.now c.learn.new.known c.args.row c.args.number) c.learn.ensures
