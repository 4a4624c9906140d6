-- The rules by which a script decides of input sections.
use Rattle.std.specs.Prelude.{Bool, ◌&&◌, List, [], ◌∷◌, ◌++◌, Option, Some, None, Result, Ok, Err}
use Rattle.std.specs.List.{find}
use Rattle.wild_glob.specs.declared.piece.Piece.{Piece}
use Rattle.wild_rules.specs.declared.fault.RuleFault.{RuleFault}
use Rattle.wild_rules.specs.declared.matcher.SectionNameMatcher.{SectionNameMatcher}
use Rattle.wild_rules.specs.Making.{names_of, files_of}
use Rattle.wild_rules.specs.Taking.{takes_name, takes_file}
use Rattle.wild_script_tree.specs.declared.tree.Command.{Command}
use Rattle.wild_script_tree.specs.declared.tree.SectionPattern.{SectionPattern}
use Rattle.wild_plan_spec.specs.declared.chunk.Chunk.{Chunk}
use Rattle.wild_plan_spec.specs.declared.chunk.Decision.{Decision}
use Rattle.wild_plan_spec.specs.declared.chunk.Decision.TheVariants.{Discard, Keep}
use Rattle.wild_plan_spec.specs.declared.row.InputRow.{InputRow}
use Rattle.wild_plan_spec.specs.Names.{Name}
use Rattle.wild_plan_spec.specs.Places.{Place, Collect, script_places}

-- of input sections of these names, in these files or in all, it decides this
pub record Rule : Type 0 where
  pub names : SectionNameMatcher
  pub files : Option (List Piece)
  pub decision : Decision

-- the rule of two patterns; they make none where one of them has no reading
abbrev pub rule_of : Result (Option (List Piece)) RuleFault → Result SectionNameMatcher RuleFault → Decision → List Rule
rule_of (Err f) names d = []
rule_of (Ok files) (Err f) d = []
rule_of (Ok files) (Ok names) d = record { names = names; files = files; decision = d } ∷ []

-- what a pattern decides in a matcher that collects for this chunk, or for none
abbrev pub pattern_decision : Option Chunk → SectionPattern → Decision
pattern_decision None p = Discard
pattern_decision (Some q) p = Keep (record { chunk = q; sorted = p.sorted })

-- the rules of these patterns, each with this file pattern
abbrev pub pattern_rules : Option Chunk → Option Name → List SectionPattern → List Rule
pattern_rules q file [] = []
pattern_rules q file (p ∷ ps) = rule_of (files_of file) (names_of p.name) (pattern_decision q p) ++ pattern_rules q file ps

-- one rule for each pattern of a matcher
abbrev pub place_rules : Place → List Rule
place_rules (Collect q m) = pattern_rules q m.input_file_pattern m.input_section_name_patterns
place_rules p = []

-- the rules of all places
abbrev pub rules_in : List Place → List Rule
rules_in [] = []
rules_in (p ∷ ps) = place_rules p ++ rules_in ps

-- the rules of a script, in text order
abbrev pub rules_of : List Command → List Rule
rules_of t = rules_in (script_places t)

-- the rule takes a row, by its section and its file
abbrev pub takes_row : InputRow → Rule → Bool
takes_row row rule = takes_name rule.names row.«section» && takes_file rule.files (Some row.file)

-- the first rule that takes the row
abbrev pub first_rule : List Rule → InputRow → Option Rule
first_rule rules row = find (takes_row row) rules
