use Rattle.std.proofs.Common.{◌∙◌, Some, None, ap, refl, arith}
use Rattle.std.specs.Prelude.{slice_get}
use Rattle.std.specs.Option.{option_copied}
use Rattle.wild_rules.proofs.Found.{first_at}
use Rattle.wild_rules.proofs.Numbers.{candidates_with_name}
use Rattle.wild_rules.proofs.section_rules.SectionRules.lookup_rule_counted.Goals as goal

pub returns-clause-rule : goal.returns-clause-rule
returns-clause-rule g c =
    c.get.ensures.value ∙ ap (λ rules. slice_get rules c.in_ok-number.number) c.self.view_is
    ∙ first_at (Some c.in_ok-number.number) c.args.self.now c.args.section_name.now (option_copied c.args.file_name) c.if-is_empty.ensures c.in_ok-number.ensures.number

pub returns-clause-steps : goal.returns-clause-steps
returns-clause-steps g c =
    omega (arith, c.first_number.ensures.steps, candidates_with_name c.args.self.now c.args.self.now c.args.section_name.now refl c.if-is_empty.ensures)

pub returns-in_err-number-clause-rule : goal.returns-in_err-number-clause-rule
returns-in_err-number-clause-rule g c =
    ap option_copied c.from_residual.ensures ∙ first_at None c.args.self.now c.args.section_name.now (option_copied c.args.file_name) c.if-is_empty.ensures c.in_err-number.ensures.number

pub returns-in_err-number-clause-steps : goal.returns-in_err-number-clause-steps
returns-in_err-number-clause-steps g c =
    omega (arith, c.first_number.ensures.steps, candidates_with_name c.args.self.now c.args.self.now c.args.section_name.now refl c.if-is_empty.ensures)
