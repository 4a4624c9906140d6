use Rattle.std.proofs.Common.{◌≡◌, ◌∙◌, false, sym}
use Rattle.std.specs.Option.{is_some}
use Rattle.wild_numbering.specs.Numbering.{number_of}
use Rattle.wild_numbering.proofs.Names.{numbered, numbered_again, none_from}
use Rattle.wild_numbering.proofs.numbering.Numbering.push.Goals as goal

pub invariant_of-self-then-is_some : goal.invariant_of-self-then-is_some
invariant_of-self-then-is_some c = λ x. rw (c.in_ok-push.ensures.ok, c.in_ok-copy.ensures) (c.self.invariant x ∙ numbered_again _ x _ (rw (c.self.view_is, sym c.get.ensures) (sym c.is_some.ensures ∙ c.if-is_some.true)))

pub invariant_of-self-in-Ok : goal.invariant_of-self-in-Ok
invariant_of-self-in-Ok c =
    let new : is_some (number_of c.args.name.now c.args.self.now) ≡ false = rw (sym c.get.ensures) (sym c.is_some.ensures ∙ c.if-is_some.false) in
    λ x. rw (c.in_ok-push-2.ensures.ok, c.in_ok-copy.ensures) (c.in-Ok.ensures.updates.0 x ∙ rw (c.self.invariant x, c.in_ok-key.ensures, c.len-number.ensures, c.self.view_is) (numbered _ x _ (none_from _ new)))
