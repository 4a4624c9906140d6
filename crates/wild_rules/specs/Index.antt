-- By what rules are found: the bytes with which a name begins.
use Rattle.std.specs.Prelude.{◌≡◌, ℕ, ◌+◌, ◌*◌, ◌^◌, ◌%◌, ◌==◌, Bool, true, false, not, ◌&&◌, ◌||◌, nat_le, nat_lt, if◌then◌else◌, List, [], ◌∷◌, ◌++◌, length, take, slice_get, Option, Some, None}
use Rattle.std.specs.HashMap.{get}
use Rattle.std.specs.List.{slice_index, count_by, list_any, sum_by}
use Rattle.std.specs.Option.{unwrap_or}
use Rattle.std.specs.Str.{bytes_eq}
use Rattle.wild_glob.specs.Match.{character_at, character_of}
use Rattle.wild_glob.specs.declared.piece.Piece.{Piece}
use Rattle.wild_rules.specs.declared.index.Index.{Index}
use Rattle.wild_rules.specs.declared.matcher.SectionNameMatcher.{SectionNameMatcher}
use Rattle.wild_rules.specs.declared.matcher.SectionNameMatcher.TheVariants.{Exact, Prefix, Pattern}
use Rattle.wild_rules.specs.Rule.{Rule}
use Rattle.wild_rules.specs.Taking.{takes}

-- ---- keys

-- the key of a name: its first four bytes, filled up with zeros
abbrev pub name_key : List ℕ → List ℕ
name_key name = slice_index name 0 ∷ slice_index name 1 ∷ slice_index name 2 ∷ slice_index name 3 ∷ []

-- the byte of a character of ASCII
abbrev pub ascii_byte : Option ℕ → Option ℕ
ascii_byte None = None
ascii_byte (Some c) = if nat_lt c 128 then Some c else None

-- the byte that a pattern has at this place, where a character of ASCII stands there for itself
abbrev pub byte_of : List Piece → ℕ → Option ℕ
byte_of pattern place = ascii_byte (character_at pattern place)

-- a byte before others, or nothing where there is none
abbrev pub byte_then : Option ℕ → List ℕ → List ℕ
byte_then None bytes = []
byte_then (Some byte) bytes = byte ∷ bytes

-- the bytes with which a pattern begins, as long as characters of ASCII stand there for themselves
abbrev pub ascii_run : List Piece → List ℕ
ascii_run [] = []
ascii_run (p ∷ ps) = byte_then (ascii_byte (character_of p)) (ascii_run ps)

-- bytes, where they are four or more
abbrev pub long_enough : List ℕ → Option (List ℕ)
long_enough bytes = if nat_le 4 (length bytes) then Some bytes else None

-- the bytes with which all names begin that a rule takes: an exact name; and of a prefix or of the beginning of a pattern
-- four or more
abbrev pub literal : SectionNameMatcher → Option (List ℕ)
literal (Exact name) = Some name
literal (Prefix name) = long_enough name
literal (Pattern pattern) = long_enough (ascii_run pattern)

-- the key of the names that begin with these bytes, where there are some
abbrev pub key_of : Option (List ℕ) → Option (List ℕ)
key_of None = None
key_of (Some bytes) = Some (name_key bytes)

-- the key of the names that a rule takes, where they have one in common
abbrev pub names_key : SectionNameMatcher → Option (List ℕ)
names_key matcher = key_of (literal matcher)

-- whether there is none
abbrev pub is_short_key : Option (List ℕ) → Bool
is_short_key None = true
is_short_key (Some key) = false

-- whether there is one, and it is this
abbrev pub is_key : List ℕ → Option (List ℕ) → Bool
is_key key None = false
is_key key (Some own) = bytes_eq own key

-- a short rule has no such bytes, and so no key
abbrev pub is_short : Rule → Bool
is_short rule = is_short_key (literal rule.matcher)

-- whether a rule has this key
abbrev pub has_key : List ℕ → Rule → Bool
has_key key rule = is_key key (names_key rule.matcher)

-- a number that bytes behind others make of the number of those
abbrev pub mixed : ℕ → List ℕ → ℕ
mixed h [] = h
mixed h (b ∷ bs) = mixed (((h * 31) % 2 ^ 64 + b) % 2 ^ 64) bs

-- by what a literal is found: its first four bytes, its length, and a number that its bytes make
abbrev pub literal_key : List ℕ → List ℕ
literal_key bytes = slice_index bytes 0 ∷ slice_index bytes 1 ∷ slice_index bytes 2 ∷ slice_index bytes 3 ∷ length bytes ∷ mixed 0 bytes ∷ []

-- the same of one that may be missing
abbrev pub literal_key_of : Option (List ℕ) → Option (List ℕ)
literal_key_of None = None
literal_key_of (Some bytes) = Some (literal_key bytes)

-- whether a rule has a literal that is found by the same
abbrev pub has_literal : List ℕ → Rule → Bool
has_literal bytes rule = is_key (literal_key bytes) (literal_key_of (literal rule.matcher))

-- ---- candidates

-- how many rules have this key, or are short
abbrev pub candidates_by_key : List Rule → List ℕ → ℕ
candidates_by_key rules key = count_by (has_key key) rules + count_by is_short rules

-- how many rules may take a section of this name: those with its key, and the short ones; none where the name is empty
abbrev pub candidates : List Rule → List ℕ → ℕ
candidates rules [] = 0
candidates rules (b ∷ bs) = candidates_by_key rules (name_key (b ∷ bs))

-- a rule that takes a name has its key, or is short
abbrev pub TakesByKey : Type 0
TakesByKey = (rule : Rule) (section_name : List ℕ) (file_name : Option (List ℕ))
    → takes section_name file_name rule ≡ true → is_short rule ≡ false → has_key (name_key section_name) rule ≡ true

-- ---- what an index holds

-- the numbers of the rules that pass a test, rising; the first rule of the list has the number n
abbrev pub numbers : (Rule → Bool) → ℕ → List Rule → List ℕ
numbers test n [] = []
numbers test n (rule ∷ rules) = if test rule then n ∷ numbers test (n + 1) rules else numbers test (n + 1) rules

-- the numbers that an index has at a literal
abbrev pub numbers_at : Index → List ℕ → List ℕ
numbers_at index bytes = unwrap_or (get bytes_eq index.by_literal (literal_key bytes)) []

-- the lengths, and this one too where it is four or more
abbrev pub measured : ℕ → List ℕ → List ℕ
measured n lengths = if nat_le 4 n && not (list_any (λ m. m == n) lengths) then lengths ++ n ∷ [] else lengths

-- the lengths, and that of a literal
abbrev pub measured_with : Option (List ℕ) → List ℕ → List ℕ
measured_with None lengths = lengths
measured_with (Some bytes) lengths = measured (length bytes) lengths

-- the lengths, and those of the literals of rules
abbrev pub all_measured : List Rule → List ℕ → List ℕ
all_measured [] lengths = lengths
all_measured (rule ∷ rules) lengths = all_measured rules (measured_with (literal rule.matcher) lengths)

-- the index has all rules of the list, and no others: at each literal those that have it, and apart the short ones; and the
-- lengths of all literals
pub record Indexes (index : Index) (rules : List Rule) : Type 0 where
  pub found : (bytes : List ℕ) → numbers_at index bytes ≡ numbers (has_literal bytes) 0 rules
  pub lengths : index.lengths ≡ all_measured rules []
  pub short : index.short ≡ numbers is_short 0 rules

-- ---- a look-up

-- a rule has the literal that a name is, or that is its beginning of one of these lengths
abbrev pub is_begun : List ℕ → List ℕ → Rule → Bool
is_begun name lengths rule = has_literal name rule || list_any (λ n. nat_lt n (length name) && has_literal (take n name) rule) lengths

-- how many rules have these literals
abbrev pub begun : List ℕ → List ℕ → List Rule → ℕ
begun name lengths rules = count_by (has_literal name) rules + sum_by (λ n. if nat_lt n (length name) then count_by (has_literal (take n name)) rules else 0) lengths

-- whether a number comes before another one, if there is one
abbrev pub is_before : ℕ → Option ℕ → Bool
is_before n None = true
is_before n (Some best) = nat_lt n best

-- the lowest of a number that was found, and of these that pass a test, which are tried as long as they are lower
abbrev pub lowest : (ℕ → Bool) → List ℕ → Option ℕ → Option ℕ
lowest test [] best = best
lowest test (n ∷ ns) best = if is_before n best then (if test n then Some n else lowest test ns best) else best

-- whether there is a rule, and it takes the section
abbrev pub takes_by : List ℕ → Option (List ℕ) → Option Rule → Bool
takes_by section_name file_name None = false
takes_by section_name file_name (Some rule) = takes section_name file_name rule

-- whether the rule of this number takes it
abbrev pub takes_at : List ℕ → Option (List ℕ) → List Rule → ℕ → Bool
takes_at section_name file_name rules n = takes_by section_name file_name (slice_get rules n)
