use Rattle.std.proofs.Common.{rules, sym, ◌∙◌, ap}
use Rattle.std.proofs.lemmas.List.{take_rest}
use Rattle.std.specs.Str.{chars}
use Rattle.wild_glob.specs.Match.{some_suffix, matches}
use Rattle.wild_glob.proofs.Walks.{passes_run_later, reaches_end}
use Rattle.wild_glob.proofs.matching.matches_some_suffix.Goals as goal

pub loop-rest-preserved-in-Some-1 : goal.loop-rest-preserved-in-Some-1
loop-rest-preserved-in-Some-1 c =
    let end = c.in-Some-len1-up-default in (
      search rules,
      ap (λ l. some_suffix (matches l) (chars end.rest.now)) (take_rest end.field-0-0.now 1)
          ∙ sym (passes_run_later c.loop-rest.left.now c.loop-rest.start.now end.field-0-0.now end.rest.now end.ensures end.len_at_least) ∙ c.loop-rest.invariant.1,
    )

pub returns-in-Some-empty-default : goal.returns-in-Some-empty-default
returns-in-Some-empty-default c =
    let end = c.in-Some-empty-default in
    sym (reaches_end c.loop-rest.left.now c.loop-rest.start.now end.field-0-0.now end.rest.now end.ensures end.len_below (sym c.is_end.ensures ∙ c.if-is_end.true)) ∙ c.loop-rest.invariant.1
