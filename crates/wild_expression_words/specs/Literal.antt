-- Numbers as they are written in expressions.
use Rattle.std.specs.Prelude.{ℕ, ◌+◌, ◌*◌, ◌^◌, ◌%◌, Bool, not, ◌||◌, ◌&&◌, ◌==◌, nat_lt, if◌then◌else◌, Option, Some, None, slice_get}
use Rattle.std.specs.Str.Parse.{digits_value}
use Rattle.wild_reading.specs.Position.{Bytes}
use Rattle.wild_reading.specs.Bytes.{begins, begins_run, run_end}
use Rattle.wild_reading.specs.Lex.{between}
use Rattle.wild_reading.specs.Reader.{Reader, Takes}
use Rattle.wild_reading.specs.declared.classes.Class.TheVariants as k
use Rattle.wild_expression_words.specs.declared.literal.Digits.{Digits}

-- `0x` or `0X`
unfoldable pub begins_hexadecimal : Bytes → ℕ → Bool
begins_hexadecimal b i = begins 48 b i && (begins 120 b (i + 1) || begins 88 b (i + 1))

-- where the digits are: after `0x` or `0X`, a 0 alone, or from here on
unfoldable pub digits_at : Bytes → ℕ → Digits
digits_at b i =
    if begins_hexadecimal b i then record { radix = 16; start = i + 2; end = run_end (k.Digit 16) b (i + 2) }
    else if begins 48 b i then record { radix = 10; start = i; end = i + 1 }
    else record { radix = 10; start = i; end = run_end (k.Digit 10) b i }

-- what a suffix multiplies with: K or k, M or m
abbrev pub factor_of : Option ℕ → ℕ
factor_of None = 1
factor_of (Some c) = if c == 75 || c == 107 then 1024 else (if c == 77 || c == 109 then 1048576 else 1)

-- how many bytes the suffix takes
abbrev pub suffix_len : ℕ → ℕ
suffix_len factor = if nat_lt 1 factor then 1 else 0

-- one digit or more, that write a number below 2 ^ 64, and after them and a suffix no letter, digit, `_` or `.`
unfoldable pub literal_of : Bytes → Digits → Option (ℕ × ℕ)
literal_of b d =
    let n = digits_value d.radix (between b d.start d.end) in let factor = factor_of (slice_get b d.end) in let end = d.end + suffix_len factor in
    if not (d.start == d.end) && nat_lt n (2 ^ 64) && not (begins_run k.Identifier b end) then Some ((n * factor) % 2 ^ 64, end) else None

-- the value of the literal at a position, and the position after it
unfoldable pub literal_at : Bytes → ℕ → Option (ℕ × ℕ)
literal_at b i = literal_of b (digits_at b i)

-- a literal
unfoldable pub literal : Reader ℕ
literal = Takes literal_at
