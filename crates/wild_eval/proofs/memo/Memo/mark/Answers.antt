use Rattle.std.proofs.Common.{sym, arith}
use Rattle.std.proofs.lemmas.List.{set_past}
use Rattle.wild_eval.proofs.Slots.{listed_length, listed_marked}
use Rattle.wild_eval.proofs.memo.Memo.mark.Goals as goal

pub returns-in_ok-put-clause-marked : goal.returns-in_ok-put-clause-marked
returns-in_ok-put-clause-marked c =
    rw (← c.self.view_is) (listed_marked c.self.inside.slots c.put.new.slots c.self.inside.count c.args.number c.args.slot c.in_ok-put.ensures.put)

pub returns-else-number-self-clause-marked : goal.returns-else-number-self-clause-marked
returns-else-number-self-clause-marked c =
    rw (← c.self.view_is) (sym (set_past _ c.args.number c.args.slot (rw (listed_length c.self.inside.slots c.self.inside.count) (omega (arith, c.if-number-self.false)))))
