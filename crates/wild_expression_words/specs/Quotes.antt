-- Quoted names of segments.
use Rattle.std.specs.Prelude.{ℕ, ◌+◌, not, true, ◌&&◌, ◌==◌, if◌then◌else◌, Option, Some, None}
use Rattle.wild_reading.specs.Position.{Bytes}
use Rattle.wild_reading.specs.Bytes.{begins, run_end}
use Rattle.wild_reading.specs.Lex.{Word, between}
use Rattle.wild_reading.specs.Reader.{Reader, Takes}
use Rattle.wild_reading.specs.declared.classes.Class.TheVariants as k

-- after the quote that opens: one byte or more up to the quote that closes, and the position after that
unfoldable pub closed_at : Bytes → ℕ → Option (Word × ℕ)
closed_at b i =
    let end = run_end k.Quotes b i in
    if not (end == i) && begins 34 b end then Some (record { content = between b i end; quoted = true }, end + 1) else None

-- a quote, one byte or more that is none, and a quote
unfoldable pub quoted_name_at : Bytes → ℕ → Option (Word × ℕ)
quoted_name_at b i = if begins 34 b i then closed_at b (i + 1) else None

-- a token in quotes that is not empty
unfoldable pub quoted_name : Reader Word
quoted_name = Takes quoted_name_at
