use Rattle.std.proofs.Common.{◌∙◌, sym, ap, inl, Some, Err}
use Rattle.std.proofs.lemmas.Result.{err_from_is_err_and}
use Rattle.std.specs.Str.{chars}
use Rattle.wild_glob.proofs.Texts.{nonempty, compiled_other, compiled_read, refused}
use Rattle.wild_glob.proofs.pattern.compile_glob_pattern.Goals as goal

pub returns : goal.returns
returns c =
    let some = nonempty c.args.pattern.now (sym c.is_empty.ensures ∙ c.if-is_empty.false) in
    let text = c.as_slice.ensures.value ∙ c.in_ok-characters.ensures ∙ ap chars c.in-Ok.ensures.cases.0 in
    inl (sym (compiled_read c.args.pattern.now c.as_slice.result.now (Some c.in_ok-pieces.pieces) some c.in-Ok.ensures.cases.1 text c.in_ok-pieces.ensures.ok))

pub returns-in_err-pieces : goal.returns-in_err-pieces
returns-in_err-pieces c =
    let some = nonempty c.args.pattern.now (sym c.is_empty.ensures ∙ c.if-is_empty.false) in
    let text = c.as_slice.ensures.value ∙ c.in_ok-characters.ensures ∙ ap chars c.in-Ok.ensures.cases.0 in
    let p = err_from_is_err_and c.from_residual-in_err-pieces.result c.from_residual-in_err-pieces.ensures.1 in
    refused c.args.pattern.now c.as_slice.result.now c.in_err-pieces.field-0.0 _ (p.1 ∙ ap (λ f. Err f) p.2) some c.in-Ok.ensures.cases.1 text c.in_err-pieces.ensures.err

pub returns-in_default : goal.returns-in_default
returns-in_default c =
    let some = nonempty c.args.pattern.now (sym c.is_empty.ensures ∙ c.if-is_empty.false) in
    inl (sym (compiled_other c.args.pattern.now some c.in_default.ensures.cases.0))
