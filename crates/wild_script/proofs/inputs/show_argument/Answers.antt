use Rattle.std.proofs.Common.{sym, subst, IsUtf8, List, ℕ}
use Rattle.wild_script.proofs.Shown.{shows_strange, shows_last, shows_one}
use Rattle.wild_script.proofs.inputs.show_argument.Goals as goal

pub returns-in_default : goal.returns-in_default
returns-in_default g c = shows_strange (rw c.bytes.ensures at c.in_default.ensures.cases.0)

pub returns-then-show_text : goal.returns-then-show_text
returns-then-show_text g c = shows_one (rw c.bytes.ensures at c.in-Ok.ensures.cases.1) (rw (c.in-Ok.ensures.cases.0, c.bytes.ensures) at c.show_text.ensures) c.if-show_text.true c.saturating_add.ensures

pub returns-else-show_text : goal.returns-else-show_text
returns-else-show_text g c = shows_last (rw c.bytes.ensures at c.in-Ok.ensures.cases.1) (rw (c.in-Ok.ensures.cases.0, c.bytes.ensures) at c.show_text.ensures) c.if-show_text.false
