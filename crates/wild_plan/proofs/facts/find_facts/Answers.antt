use Rattle.std.proofs.Common.{◌∙◌}
use Rattle.std.proofs.lemmas.Result.{IfOk-weaker}
use Rattle.wild_fates.specs.Targets.{targets}
use Rattle.wild_plan.specs.Traits.{traits_at}
use Rattle.wild_plan.proofs.Sections.{facts_same}
use Rattle.wild_plan.proofs.facts.find_facts.Goals as goal

pub returns : goal.returns
returns c = IfOk-weaker c.facts_with.result _ _
    (λ facts h. h ∙ facts_same c.args.rows.now c.args.fates.now (traits_at c.in_ok-traits.traits) c.in_ok-traits.ensures (targets c.args.sections.now) (targets c.args.headers.now) 0 (targets c.args.names.now))
    c.facts_with.ensures
