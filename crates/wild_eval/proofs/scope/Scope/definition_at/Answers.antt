use Rattle.std.proofs.Common.{sym}
use Rattle.wild_eval.proofs.Entries.{shown_within, shown_past}
use Rattle.wild_eval.proofs.scope.Scope.definition_at.Goals as goal

pub returns-in-Some : goal.returns-in-Some
returns-in-Some c =
    let h = c.in-Some.ensures.lookup in sym (shown_within c.args.self.now.entries.now c.args.number c.in-Some.entry.now h.3.0 h.1)

pub returns-in-None : goal.returns-in-None
returns-in-None c = sym (shown_past c.args.self.now.entries.now c.args.number c.in-None.ensures.lookup.3)
