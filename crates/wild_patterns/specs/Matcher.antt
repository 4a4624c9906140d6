-- Matchers of input sections.
use Rattle.std.specs.Prelude.{ℕ, Bool, true, if◌then◌else◌, List, Option, Some, None, codes}
use Rattle.std.specs.Str.{bytes_eq}
use Rattle.wild_reading.specs.Position.{Bytes}
use Rattle.wild_reading.specs.Reader.{Reader, ◌>>=◌, ◌>>◌, Give}
use Rattle.wild_reading.specs.Lex.{byte, symbol, word}
use Rattle.wild_patterns.specs.Pattern.{pattern_list}
use Rattle.wild_script_tree.specs.declared.tree.Matcher as tree

-- `*`, quoted or not
unfoldable pub is_every_file : Bytes → Bool
is_every_file content = bytes_eq content (codes "*")

-- the file pattern that a token is; none is every file
unfoldable pub file_pattern : Bytes → Option (List ℕ)
file_pattern content = if is_every_file content then None else Some content

-- after the token of its file: patterns in brackets
unfoldable pub file_matcher : Bool → Bytes → Reader tree.Matcher
file_matcher must_keep file = do
  patterns ← pattern_list
  Give (record { must_keep = must_keep; input_file_pattern = file_pattern file; input_section_name_patterns = patterns })

-- after KEEP: in brackets a token, directly after the first, and patterns
unfoldable pub keep_matcher : Reader tree.Matcher
keep_matcher = do
  byte 40
  file ← word
  matcher ← file_matcher true file.content
  symbol 41
  Give matcher
