-- How rules are made, and why there is none.
use Rattle.std.specs.Prelude.{◌≢◌, ℕ, true, false, ◌||◌, ◌==◌, if◌then◌else◌, List, [], length, Option, Some, None, Result, Ok, Err}
use Rattle.wild_glob.specs.declared.piece.Piece.{Piece}
use Rattle.wild_glob.specs.declared.escape.GlobPatternType.{GlobPatternType}
use Rattle.wild_glob.specs.declared.escape.GlobPatternType.TheVariants as kind
use Rattle.wild_glob.specs.declared.fault.PatternFault.{PatternFault}
use Rattle.wild_glob.specs.Escape.{pattern_type, ends_in_backslash, without_escapes}
use Rattle.wild_glob.specs.Compiled.{compiled, IsText}
use Rattle.wild_rules.specs.declared.fault.RuleFault.{RuleFault}
use Rattle.wild_rules.specs.declared.fault.RuleFault.TheVariants.{BadFile, BadSection}
use Rattle.wild_rules.specs.declared.matcher.SectionNameMatcher.{SectionNameMatcher}
use Rattle.wild_rules.specs.declared.matcher.SectionNameMatcher.TheVariants.{Exact, Prefix, Pattern}
use Rattle.wild_rules.specs.declared.outcome.SectionRuleOutcome.{SectionRuleOutcome}
use Rattle.wild_rules.specs.Rule.{Rule}

-- a pattern without wildcard is a name, unless it is empty or ends in a lone backslash
abbrev pub exact_name : List ℕ → Result SectionNameMatcher RuleFault
exact_name bytes = if length bytes == 0 || ends_in_backslash bytes then Err BadSection else Ok (Exact (without_escapes bytes))

-- a pattern of section names, or why there is none
abbrev pub pattern_of_names : Result (List Piece) PatternFault → Result SectionNameMatcher RuleFault
pattern_of_names (Ok pattern) = Ok (Pattern pattern)
pattern_of_names (Err f) = Err BadSection

-- the section names that a pattern of this kind means
abbrev pub names_by_kind : GlobPatternType → List ℕ → Result SectionNameMatcher RuleFault
names_by_kind kind.Star bytes = pattern_of_names (compiled bytes)
names_by_kind kind.NonStar bytes = pattern_of_names (compiled bytes)
names_by_kind kind.EscapedExact bytes = exact_name bytes
names_by_kind kind.Exact bytes = exact_name bytes

-- which section names a pattern means
abbrev pub names_of : List ℕ → Result SectionNameMatcher RuleFault
names_of bytes = names_by_kind (pattern_type bytes) bytes

-- a pattern of file names, or why there is none
abbrev pub pattern_of_files : Result (List Piece) PatternFault → Result (Option (List Piece)) RuleFault
pattern_of_files (Ok pattern) = Ok (Some pattern)
pattern_of_files (Err f) = Err BadFile

-- which files a pattern means, where there is one
abbrev pub files_of : Option (List ℕ) → Result (Option (List Piece)) RuleFault
files_of None = Ok None
files_of (Some bytes) = pattern_of_files (compiled bytes)

-- the first fault, or the rule of a script
abbrev pub rule_of : Result (Option (List Piece)) RuleFault → Result SectionNameMatcher RuleFault → SectionRuleOutcome → Result Rule RuleFault
rule_of (Err f) matcher outcome = Err f
rule_of (Ok file) (Err f) outcome = Err f
rule_of (Ok file) (Ok matcher) outcome = Ok (record { matcher = matcher; file = file; outcome = outcome; from_script = true })

-- the rule that a script makes of a section pattern and a file pattern: the file pattern is read first
abbrev pub script_rule : List ℕ → Option (List ℕ) → SectionRuleOutcome → Result Rule RuleFault
script_rule pattern file_pattern outcome = rule_of (files_of file_pattern) (names_of pattern) outcome

-- there is a file pattern, and it is a text
abbrev pub IsSomeText : Option (List ℕ) → Type 0
IsSomeText None = ⊥
IsSomeText (Some bytes) = IsText bytes

-- the patterns ask for memory: the file pattern is a text, or there is none and the section pattern has bytes
abbrev pub AsksMemory : List ℕ → Option (List ℕ) → Type 0
AsksMemory pattern None = pattern ≢ []
AsksMemory pattern (Some file_pattern) = IsText file_pattern

-- a rule from outside a script
abbrev pub plain_rule : SectionNameMatcher → SectionRuleOutcome → Rule
plain_rule matcher outcome = record { matcher = matcher; file = None; outcome = outcome; from_script = false }

-- a rule from outside a script, for this name
abbrev pub exact_rule : List ℕ → SectionRuleOutcome → Rule
exact_rule name outcome = plain_rule (Exact name) outcome

-- one for the names that begin with this one
abbrev pub prefix_rule : List ℕ → SectionRuleOutcome → Rule
prefix_rule name outcome = plain_rule (Prefix name) outcome
