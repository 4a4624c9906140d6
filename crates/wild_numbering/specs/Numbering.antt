-- Names, each with a number.
use Rattle.std.specs.Prelude.{ℕ, Bool, List, Option}
use Rattle.std.specs.Str.{bytes_eq}
use Rattle.std.specs.List.{position_from}

-- whether a name is this one
abbrev pub is_named : List ℕ → List ℕ → Bool
is_named x y = bytes_eq y x

-- the number of a name: the index of the first that is it
abbrev pub number_of : List ℕ → List (List ℕ) → Option ℕ
number_of x names = position_from (is_named x) 0 names
