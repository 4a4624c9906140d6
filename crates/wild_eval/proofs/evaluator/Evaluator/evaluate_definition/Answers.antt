use Rattle.std.proofs.Common.{◌∙◌, ap, sym}
use Rattle.std.specs.Option.{option_map}
use Rattle.wild_eval.specs.Scope.{shown_definition}
use Rattle.wild_eval.proofs.Evaluated.{whole_evaluates, whole_is_kept}
use Rattle.wild_eval.proofs.evaluator.Evaluator.evaluate_definition.Goals as goal

pub returns-in-Some-clause-answer : goal.returns-in-Some-clause-answer
returns-in-Some-clause-answer g c =
    let placed = sym c.definition_at.ensures ∙ ap (option_map shown_definition) c.in-Some.is in
    rw placed (whole_evaluates c.args.self.now c.args.memo.now c.whole.new.memo c.args.steps.now c.whole.new.steps c.requires.memo c.args.name.now c.args.number (shown_definition c.in-Some.definition)
    (record { numbered = c.requires.numbered; placed = placed }) c.whole.result c.whole.ensures.value)

pub returns-in-Some-clause-kept : goal.returns-in-Some-clause-kept
returns-in-Some-clause-kept g c =
    let placed = sym c.definition_at.ensures ∙ ap (option_map shown_definition) c.in-Some.is in
    whole_is_kept c.args.self.now c.args.memo.now c.whole.new.memo c.args.steps.now c.whole.new.steps c.requires.memo c.args.name.now c.args.number (shown_definition c.in-Some.definition)
    (record { numbered = c.requires.numbered; placed = placed }) c.whole.result c.whole.ensures.value
