use Rattle.std.proofs.Common.{rules, ◌∙◌, sym, arith}
use Rattle.wild_ids.proofs.Numbers.{numbers-step}
use Rattle.wild_ids.proofs.output_section_id.PartIdIteratorIterator.next.Goals as goal

pub returns-clause-steps : goal.returns-clause-steps
returns-clause-steps c = sym c.self.view_is ∙ numbers-step c.self.inside.next c.self.inside.end (omega arith)

pub returns-clause-goes : goal.returns-clause-goes
returns-clause-goes c = rw (← c.self.view_is, numbers-step c.self.inside.next c.self.inside.end (omega arith)) (search rules)
