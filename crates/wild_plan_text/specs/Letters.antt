-- The letters of flags, by the table of letters that reads them.
use Rattle.std.specs.Prelude.{ℕ, Bool, false, List, Option, Some, None}
use Rattle.wild_names.specs.InputFlags.{has, flag_of_letter}
use Rattle.wild_names.specs.declared.input_flags.InputFlags.{InputFlags}
use Rattle.wild_plan_spec.specs.Text.{letter}

-- the flags have this one
abbrev pub holds : InputFlags → Option InputFlags → Bool
holds flags None = false
holds flags (Some one) = has one.0 flags

-- the letter, where it is that of a flag that is set
abbrev pub letter_in : InputFlags → ℕ → List ℕ
letter_in flags c = letter (holds flags (flag_of_letter c)) c
