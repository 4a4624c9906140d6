use Rattle.std.proofs.Common.{refl}
use Rattle.wild_eval.proofs.Slots.{listed_empty}
use Rattle.wild_eval.proofs.memo.Memo.new.Goals as goal

pub returns : goal.returns
returns c = listed_empty c.new.result c.args.count (λ i. rw c.new.ensures.empty refl)
