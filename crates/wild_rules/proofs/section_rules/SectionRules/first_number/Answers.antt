use Rattle.std.proofs.Common.{◌≡◌, ◌+◌, ◌∙◌, ap, arith}
use Rattle.std.proofs.lemmas.List.{drop_all}
use Rattle.std.specs.Option.{option_copied}
use Rattle.wild_rules.specs.Index.{takes_at, takes_by}
use Rattle.wild_rules.specs.Taking.{takes}
use Rattle.wild_rules.proofs.Counts.{tried_by_steps}
use Rattle.wild_rules.proofs.Found.{found_by_steps}
use Rattle.wild_rules.proofs.Lengths.{covers}
use Rattle.wild_rules.proofs.section_rules.SectionRules.first_number.Goals as goal

pub returns-clause-number : goal.returns-clause-number
returns-clause-number g c =
    let name = c.args.section_name.now in let file = option_copied c.args.file_name in
    let rules = c.self.inside.rules in let index = c.self.inside.index in
    found_by_steps index rules c.self.invariant (takes name file) (takes_at name file) (λ i r e. let z : 0 + i ≡ i = omega arith in ap (takes_at name file rules) z ∙ ap (takes_by name file) e) name
    (λ i r e t. rw c.self.invariant.lengths (covers name rules i r e file t))
    c.as_slice-rules.result.now _ c.numbers_at-named.result.now c.short-short.result.now c.lengths-length-items.result.now _ c.loop-length.best _ c.lowest.result
    c.as_slice-rules.ensures c.self.view_is c.numbers_at-named.ensures c.short-short.ensures c.lengths-length-items.ensures (drop_all _ _ c.loop-length-test.false)
    c.lowest-best.ensures.number c.loop-length.invariant.0 c.lowest.ensures.number

pub returns-clause-steps : goal.returns-clause-steps
returns-clause-steps g c =
    tried_by_steps c.self.inside.index c.self.inside.rules c.self.invariant c.args.section_name.now _ c.numbers_at-named.result.now c.short-short.result.now c.lengths-length-items.result.now _
    c.args.steps.now c.lowest-best.new.steps c.loop-length.steps c.lowest.new.steps
    c.self.view_is c.numbers_at-named.ensures c.short-short.ensures c.lengths-length-items.ensures (drop_all _ _ c.loop-length-test.false)
    c.lowest-best.ensures.steps c.loop-length.invariant.1 c.lowest.ensures.steps
