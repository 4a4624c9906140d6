-- VERSION: bytes in braces.
use Rattle.std.specs.Prelude.{ℕ, ◌-◌, ◌==◌, Bool, ◌&&◌, List, length, count_by, Option}
use Rattle.std.specs.Option.{option_map}
use Rattle.std.specs.List.{find, range_with_len}
use Rattle.wild_reading.specs.Position.{Bytes}
use Rattle.wild_reading.specs.Bytes.{begins}
use Rattle.wild_reading.specs.Reader.{Reader, ◌>>=◌, ◌>>◌, Give, Takes}
use Rattle.wild_reading.specs.Lex.{between, symbol, optional_symbol}
use Rattle.wild_script_tree.specs.declared.tree.Command.{Command}
use Rattle.wild_script_tree.specs.declared.tree.Command.TheVariants as variant

-- how often the byte stands from one position up to another
unfoldable pub count_of : ℕ → Bytes → ℕ → ℕ → ℕ
count_of c b i j = count_by (λ d. d == c) (between b i j)

-- `}` is at the second position, and between the two as many are closed as are opened
unfoldable pub closes_at : Bytes → ℕ → ℕ → Bool
closes_at b i j = begins 125 b j && (count_of 123 b i j == count_of 125 b i j)

-- the first such position: of the brace that closes the one that was opened before
unfoldable pub closing_brace : Bytes → ℕ → Option ℕ
closing_brace b i = find (closes_at b i) (range_with_len i (length b - i))

-- the bytes before it, and where it is
unfoldable pub content_at : Bytes → ℕ → Option (List ℕ × ℕ)
content_at b i = option_map (λ j. (between b i j, j)) (closing_brace b i)

-- the bytes up to the brace that closes
unfoldable pub content : Reader (List ℕ)
content = Takes content_at

-- after VERSION: bytes in braces; a semicolon or none
unfoldable pub version_command : Reader Command
version_command = do
  symbol 123
  found ← content
  symbol 125
  optional_symbol 59
  Give (variant.Version found)
