-- The letters of flags.
use Rattle.std.specs.Prelude.{ℕ, if◌then◌else◌, List, [], ◌∷◌, Option, Some, None}
use Rattle.std.specs.Int.RustNames.{bit_or}
use Rattle.std.specs.Option.{option_and_then}
use Rattle.wild_names.specs.InputFlags.{has, flag_of_letter}
use Rattle.wild_names.specs.declared.input_flags.InputFlags.{InputFlags}

-- flags and one more, which is not among them
abbrev pub with_flag : InputFlags → InputFlags → Option InputFlags
with_flag held new = if has new.0 held then None else Some (record { 0 = bit_or held.0 new.0 })

-- flags and that of one letter more
abbrev pub with_letter : InputFlags → ℕ → Option InputFlags
with_letter held letter = option_and_then (with_flag held) (flag_of_letter letter)

-- flags and those of these letters
abbrev pub with_letters : InputFlags → List ℕ → Option InputFlags
with_letters held [] = Some held
with_letters held (letter ∷ letters) = option_and_then (λ new. with_letters new letters) (with_letter held letter)

-- the flags that letters write, each at most once and in any order
abbrev pub flags_of : List ℕ → Option InputFlags
flags_of letters = with_letters (record { 0 = 0 }) letters
