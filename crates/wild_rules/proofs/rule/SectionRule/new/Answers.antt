use Rattle.std.proofs.Common.{◌∙◌, ap, Err}
use Rattle.std.proofs.lemmas.Result.{err_from_is_err_and}
use Rattle.std.specs.Option.{option_copied}
use Rattle.wild_rules.proofs.Memory.{no_names}
use Rattle.wild_rules.proofs.rule.SectionRule.new.Goals as goal

pub returns-in_err-matcher : goal.returns-in_err-matcher
returns-in_err-matcher c =
    let p = err_from_is_err_and c.from_residual-in_err-matcher.result c.from_residual-in_err-matcher.ensures.1 in
    no_names c.args.pattern.now (option_copied c.args.input_file_pattern) c.args.outcome c.files_of.result c.names_of.result c.from_residual-in_err-matcher.result c.in_ok-file.file c.in_err-matcher.field-0.0
    (p.1 ∙ ap (λ f. Err f) p.2) c.in_ok-file.was c.files_of.ensures c.in_err-matcher.was c.names_of.ensures
