-- Classes of bytes, their runs, and what is ahead at a position.
use Rattle.std.specs.Prelude.{ℕ, ◌+◌, length, Bool, false, not, ◌||◌, ◌&&◌, ◌==◌, Option, Some, None, List, slice_get, drop, nat_eq, nat_lt}
use Rattle.std.specs.Char.{is_ascii_alphanumeric, digit_value}
use Rattle.std.specs.List.{prefix_len, starts_with}
use Rattle.wild_reading.specs.Position.{Bytes}
use Rattle.wild_reading.specs.declared.classes.Class.{Class}
use Rattle.wild_reading.specs.declared.classes.Class.TheVariants as k

-- ---- bytes

-- blank, tab, carriage return, newline
abbrev pub is_white : ℕ → Bool
is_white c = c == 32 || c == 9 || c == 13 || c == 10

-- none of blank, brackets, braces, semicolon, comma, newline, tab
abbrev pub is_token : ℕ → Bool
is_token c = not (c == 32 || c == 40 || c == 41 || c == 123 || c == 125 || c == 59 || c == 44 || c == 10 || c == 9)

-- none of closing bracket, blank, tab, newline, form feed, carriage return
abbrev pub is_in_pattern : ℕ → Bool
is_in_pattern c = not (c == 41 || c == 32 || c == 9 || c == 10 || c == 12 || c == 13)

-- letters, digits, `_` and `.`
abbrev pub is_in_identifier : ℕ → Bool
is_in_identifier c = is_ascii_alphanumeric c || c == 95 || c == 46

-- a digit of the radix: letters are digits after 9
abbrev pub is_digit : ℕ → ℕ → Bool
is_digit radix c = nat_lt (digit_value c) radix

-- whether a byte is of the class; no newline is in a line, and no quote in quotes
unfoldable pub has : Class → ℕ → Bool
has k.White c = is_white c
has k.Token c = is_token c
has k.Pattern c = is_in_pattern c
has k.Identifier c = is_in_identifier c
has (k.Digit radix) c = is_digit radix c
has k.Line c = not (c == 10)
has k.Quotes c = not (c == 34)

-- ---- runs

-- the position after the longest run of bytes of the class
unfoldable pub run_end : Class → Bytes → ℕ → ℕ
run_end class b i = i + prefix_len (has class) (drop i b)

-- whether a byte that may be missing is of the class
abbrev pub is_of : Class → Option ℕ → Bool
is_of class None = false
is_of class (Some c) = has class c

-- whether a byte of the class is at a position
unfoldable pub begins_run : Class → Bytes → ℕ → Bool
begins_run class b i = is_of class (slice_get b i)

-- ---- tests at a position

-- whether a byte that may be missing is this one
abbrev pub is_byte : ℕ → Option ℕ → Bool
is_byte c None = false
is_byte c (Some d) = d == c

-- whether a byte is at a position
unfoldable pub begins : ℕ → Bytes → ℕ → Bool
begins c b i = is_byte c (slice_get b i)

-- whether no byte is ahead
unfoldable pub is_end : Bytes → ℕ → Bool
is_end b i = i == length b

-- `/*`
unfoldable pub begins_comment : Bytes → ℕ → Bool
begins_comment b i = begins 47 b i && begins 42 b (i + 1)

-- `*/`
unfoldable pub ends_comment : Bytes → ℕ → Bool
ends_comment b i = begins 42 b i && begins 47 b (i + 1)

-- whether these bytes are at a position
unfoldable pub begins_with : List ℕ → Bytes → ℕ → Bool
begins_with text b i = starts_with nat_eq (drop i b) text
