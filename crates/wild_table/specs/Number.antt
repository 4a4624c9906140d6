-- Numbers as they are written in tables and words.
use Rattle.std.specs.Prelude.{ℕ, ◌^◌, Bool, ◌&&◌, ◌==◌, nat_lt, if◌then◌else◌, List, [], ◌∷◌, length, Option, Some, None}
use Rattle.std.specs.List.{list_all}
use Rattle.std.specs.Char.{digit_value}
use Rattle.std.specs.Str.Parse.{digits_value}

-- one digit or more of the radix, below 2 ^ 64
abbrev pub is_numeral : ℕ → List ℕ → Bool
is_numeral radix digits = nat_lt 0 (length digits) && list_all (λ c. nat_lt (digit_value c) radix) digits && nat_lt (digits_value radix digits) (2 ^ 64)

-- the number that digits of this radix write, if it is below 2 ^ 64
abbrev pub numeral : ℕ → List ℕ → Option ℕ
numeral radix digits = if is_numeral radix digits then Some (digits_value radix digits) else None

-- `0x` and hexadecimal digits, or decimal digits of which the first is a zero only where it is the only one
abbrev pub number : List ℕ → Option ℕ
number [] = None
number (a ∷ []) = numeral 10 (a ∷ [])
number (a ∷ b ∷ bytes) = if a == 48 then (if b == 120 then numeral 16 bytes else None) else numeral 10 (a ∷ b ∷ bytes)
