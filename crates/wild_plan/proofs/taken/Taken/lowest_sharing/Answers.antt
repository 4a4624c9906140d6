use Rattle.std.proofs.Common.{◌∙◌, ◌<◌, ◌≤◌, ℕ, sym, subst}
use Rattle.wild_eval.specs.Addresses.{known_of}
use Rattle.wild_plan.specs.Taken.{ends_of}
use Rattle.wild_plan.proofs.Apart.{none_behind, none_empty, first_shares, first_shares_not}
use Rattle.wild_plan.proofs.taken.Taken.lowest_sharing.Goals as goal
use Rattle.wild_plan.proofs.taken.Taken.lowest_sharing.Goals.{else-start-end-via-then-start-end+else-start-end-2, else-start-end-via-else-start-end}

pub returns-in_err-section : goal.returns-in_err-section
returns-in_err-section c = λ floating n taken.
    c.from_residual.ensures ∙ sym (none_behind floating (known_of c.args.addresses.now) n (ends_of c.args.self.now) taken c.args.start c.args.end c.in_err-section.ensures)

pub returns-then-start-end-2 : goal.returns-then-start-end-2
returns-then-start-end-2 c = λ floating n taken.
    sym (first_shares floating (known_of c.args.addresses.now) n (ends_of c.args.self.now) taken c.args.start c.args.end c.in_ok-section.section c.in_ok-section.ensures
    c.if-start-end.true (subst (λ (m : ℕ). m < c.args.end) c.start.ensures c.if-start-end-2.true))

pub returns-else-start-end : goal.returns-else-start-end
returns-else-start-end c = λ floating n taken. elim c.else-start-end.branch [
  | else-start-end-via-then-start-end+else-start-end-2 w ↦
      sym (first_shares_not floating (known_of c.args.addresses.now) n (ends_of c.args.self.now) taken c.args.start c.args.end c.in_ok-section.section c.in_ok-section.ensures
      (subst (λ (m : ℕ). c.args.end ≤ m) w.start.ensures w.if-start-end-2.false))
  | else-start-end-via-else-start-end w ↦
      sym (none_empty floating (known_of c.args.addresses.now) n (ends_of c.args.self.now) taken c.args.start c.args.end w.if-start-end.false)
]
