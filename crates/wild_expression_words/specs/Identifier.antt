-- Identifiers.
use Rattle.std.specs.Prelude.{ℕ, Bool}
use Rattle.wild_reading.specs.Position.{Bytes}
use Rattle.wild_reading.specs.Bytes.{begins_run}
use Rattle.wild_reading.specs.Reader.{Reader, Nothing, Choice}
use Rattle.wild_reading.specs.Lex.{Word, run}
use Rattle.wild_reading.specs.declared.classes.Class.TheVariants as k

-- a decimal digit is at a position
unfoldable pub begins_digit : Bytes → ℕ → Bool
begins_digit b i = begins_run (k.Digit 10) b i

-- the longest run of letters, digits, `_` and `.`, where no digit is first
unfoldable pub identifier : Reader Word
identifier = Choice begins_digit Nothing (run k.Identifier)
