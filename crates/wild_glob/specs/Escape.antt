-- Backslashes in patterns, and what kind of pattern they make.
use Rattle.std.specs.Prelude.{ℕ, Bool, true, false, not, ◌&&◌, ◌||◌, ◌==◌, if◌then◌else◌, List, [], ◌∷◌}
use Rattle.std.specs.List.{list_any}
use Rattle.wild_glob.specs.Character.{star, question_mark, open_bracket, backslash}
use Rattle.wild_glob.specs.declared.escape.GlobPatternType.{GlobPatternType}
use Rattle.wild_glob.specs.declared.escape.GlobPatternType.TheVariants.{Exact, EscapedExact, Star, NonStar}

-- the bytes that are not escaped, where the first one is escaped or not: a byte is escaped directly after a backslash
-- that is itself not escaped
abbrev pub unescaped_from : Bool → List ℕ → List ℕ
unescaped_from escaped [] = []
unescaped_from true (b ∷ bs) = unescaped_from false bs
unescaped_from false (b ∷ bs) = b ∷ unescaped_from (b == backslash) bs

-- the bytes of a pattern that are not escaped
abbrev pub unescaped_bytes : List ℕ → List ℕ
unescaped_bytes bs = unescaped_from false bs

-- whether this byte is among them
abbrev pub has_unescaped : ℕ → List ℕ → Bool
has_unescaped b bs = list_any (λ c. c == b) (unescaped_bytes bs)

-- `*`, then `?` or `[`, then a backslash
abbrev pub pattern_type : List ℕ → GlobPatternType
pattern_type bs =
    if has_unescaped star bs then Star
    else if has_unescaped question_mark bs || has_unescaped open_bracket bs then NonStar
    else if has_unescaped backslash bs then EscapedExact
    else Exact

-- each backslash dropped, and the byte after it kept; a last one is kept
abbrev pub without_escapes : List ℕ → List ℕ
without_escapes [] = []
without_escapes (b ∷ []) = b ∷ []
without_escapes (b ∷ c ∷ bs) = if b == backslash then c ∷ without_escapes bs else b ∷ without_escapes (c ∷ bs)

-- whether a byte, itself escaped or not, escapes the next one
abbrev pub escapes : Bool → ℕ → Bool
escapes escaped b = not escaped && b == backslash

-- whether the byte after these is escaped, where the first of them is escaped or not
abbrev pub escapes_next : Bool → List ℕ → Bool
escapes_next escaped [] = escaped
escapes_next escaped (b ∷ bs) = escapes_next (escapes escaped b) bs

-- whether a backslash that is itself not escaped is last
abbrev pub ends_in_backslash : List ℕ → Bool
ends_in_backslash bytes = escapes_next false bytes
