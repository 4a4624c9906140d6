-- the number so far, with what is left
use Rattle.std.proofs.Common.{◌≡◌, drop}
use Rattle.std.specs.Str.Parse.{digits_value, digits_value_after}
use Rattle.wild_expression_words.proofs.literal.number.Given as goal

abbrev pub invariant-loop-digit : goal.invariant-loop-digit
invariant-loop-digit l = digits_value l.fn.radix l.digits ≡ digits_value_after l.fn.radix l.value (drop l.digit-index l.digits)
