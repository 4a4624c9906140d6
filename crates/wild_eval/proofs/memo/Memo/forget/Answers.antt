use Rattle.wild_memo_laws.specs.declared.slot.Slot.TheVariants.{Unseen}
use Rattle.wild_eval.proofs.Slots.{listed_marked}
use Rattle.wild_eval.proofs.memo.Memo.forget.Goals as goal

pub returns : goal.returns
returns c = rw (← c.self.view_is) (listed_marked c.self.inside.slots c.take_out.new.slots c.self.inside.count c.args.number Unseen c.take_out.ensures)
