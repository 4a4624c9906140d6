use Rattle.std.proofs.Common.{◌∙◌, subst, ◌≢◌, ℕ, ◌^◌, ◌<◌, List, get_or, arith}
use Rattle.std.proofs.lemmas.Str.Parse.{without_leading_plus_none}
use Rattle.std.proofs.lemmas.Grind.{common_steps}
use Rattle.std.specs.Result.{OkIff}
use Rattle.std.specs.Str.Parse.{ParsesUnsigned, IsNumeral, digits_value}
use Rattle.wild_table.proofs.Numbers.{numeral_read}
use Rattle.wild_table.proofs.number.read_digits.Goals as goal

pub returns : goal.returns
returns c =
    let digits = c.args.digits.now in
    let plain : get_or digits 0 0 ≢ 43 = grind (arith, common_steps) in
    let Parses : List ℕ → Type 0 = λ ds. ParsesUnsigned 64 c.args.radix ds c.from_str_radix.result in
    let Reads : List ℕ → Type 0 = λ ds. OkIff c.from_str_radix.result (IsNumeral c.args.radix ds × (digits_value c.args.radix ds < 2 ^ 64)) (digits_value c.args.radix ds) in
    c.ok.ensures.value ∙ numeral_read c.args.radix digits _
    (subst Reads (without_leading_plus_none digits plain) (subst Parses c.in-Ok.ensures.cases.0 c.from_str_radix.ensures.value))
