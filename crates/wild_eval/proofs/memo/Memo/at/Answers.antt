use Rattle.std.proofs.Common.{◌∙◌, ap, sym, arith}
use Rattle.std.specs.Option.{unwrap_or}
use Rattle.wild_memo_laws.specs.declared.slot.Slot.TheVariants.{Unseen}
use Rattle.wild_eval.proofs.Slots.{listed_past, listed_within}
use Rattle.wild_eval.proofs.memo.Memo.at.Goals as goal

pub returns-then-number-self : goal.returns-then-number-self
returns-then-number-self c =
    rw (← c.self.view_is) (sym (listed_past c.self.inside.slots c.self.inside.count c.args.number (omega (arith, c.if-number-self.true))))

pub returns-in-Some : goal.returns-in-Some
returns-in-Some c =
    rw (← c.self.view_is) (ap (λ o. unwrap_or o Unseen) c.in-Some.ensures.value
    ∙ sym (listed_within c.self.inside.slots c.self.inside.count c.args.number (omega (arith, c.if-number-self.false))))

pub returns-in-None : goal.returns-in-None
returns-in-None c =
    rw (← c.self.view_is) (ap (λ o. unwrap_or o Unseen) c.in-None.ensures.value
    ∙ sym (listed_within c.self.inside.slots c.self.inside.count c.args.number (omega (arith, c.if-number-self.false))))
