use Rattle.std.proofs.Common.{sym, ◌∙◌, ap}
use Rattle.std.proofs.lemmas.List.{take_rest}
use Rattle.std.specs.Str.{chars}
use Rattle.wild_glob.specs.Match.{some_suffix, matches}
use Rattle.wild_glob.proofs.Walks.{passes_run}
use Rattle.wild_glob.proofs.matching.matches.Goals as goal

pub returns-in-Some-len1-up-default : goal.returns-in-Some-len1-up-default
returns-in-Some-len1-up-default c =
    let end = c.in-Some-len1-up-default in
    c.matches_some_suffix.ensures ∙ ap (λ l. some_suffix (matches l) (chars end.rest.now)) (take_rest end.field-0-0.now 1)
    ∙ sym (passes_run c.args.pieces.now c.args.text.now end.field-0-0.now end.rest.now end.ensures end.len_at_least)
