-- Which sections a rule takes.
use Rattle.std.specs.Prelude.{ℕ, Bool, true, false, ◌&&◌, nat_eq, List, Option, Some, None}
use Rattle.std.specs.List.{starts_with}
use Rattle.std.specs.Str.{bytes_eq, is_utf8, chars}
use Rattle.wild_glob.specs.declared.piece.Piece.{Piece}
use Rattle.wild_glob.specs.Match.{matches}
use Rattle.wild_rules.specs.declared.matcher.SectionNameMatcher.{SectionNameMatcher}
use Rattle.wild_rules.specs.declared.matcher.SectionNameMatcher.TheVariants.{Exact, Prefix, Pattern}
use Rattle.wild_rules.specs.Rule.{Rule}

-- whether bytes are UTF-8, and the pattern matches them
abbrev pub matches_bytes : List Piece → List ℕ → Bool
matches_bytes pattern bytes = is_utf8 bytes && matches pattern (chars bytes)

-- whether a section name is the exact one, begins with the prefix, or is matched by the pattern
abbrev pub takes_name : SectionNameMatcher → List ℕ → Bool
takes_name (Exact name) section_name = bytes_eq section_name name
takes_name (Prefix name) section_name = starts_with nat_eq section_name name
takes_name (Pattern pattern) section_name = matches_bytes pattern section_name

-- whether there is no file pattern, or a file name that it matches
abbrev pub takes_file : Option (List Piece) → Option (List ℕ) → Bool
takes_file None file_name = true
takes_file (Some pattern) None = false
takes_file (Some pattern) (Some file_name) = matches_bytes pattern file_name

-- whether a rule takes sections of this name in this file
abbrev pub takes : List ℕ → Option (List ℕ) → Rule → Bool
takes section_name file_name rule = takes_name rule.matcher section_name && takes_file rule.file file_name
