-- Rules whose ids are the numbers of chunks, and what they decide.
use Rattle.std.specs.Prelude.{ℕ, Bool, List, [], ◌∷◌, ◌++◌, length, map, slice_get, Option, Some, None, Result, Ok, Err}
use Rattle.std.specs.List.{flat_map}
use Rattle.std.specs.Option.{option_to_list}
use Rattle.wild_rules.specs.declared.fault.RuleFault.{RuleFault}
use Rattle.wild_rules.specs.declared.outcome.SectionRuleOutcome.{SectionRuleOutcome}
use Rattle.wild_rules.specs.declared.outcome.SectionRuleOutcome.TheVariants as sends
use Rattle.wild_rules.specs.Making.{script_rule}
use Rattle.wild_rules.specs.Rule as rules
use Rattle.wild_script_tree.specs.declared.tree.SectionPattern.{SectionPattern}
use Rattle.wild_plan_spec.specs.declared.chunk.Chunk.{Chunk}
use Rattle.wild_plan_spec.specs.declared.chunk.Decision.{Decision}
use Rattle.wild_plan_spec.specs.declared.chunk.Decision.TheVariants as decides
use Rattle.wild_plan_spec.specs.Names.{Name}
use Rattle.wild_plan_spec.specs.Places.{Place, Collect}
use Rattle.wild_plan_spec.specs.Rules.{Rule}

-- ---- what a rule decides

-- to be kept in a chunk, or discarded without one
abbrev pub kept_in : Bool → Option Chunk → Decision
kept_in sorted None = decides.Discard
kept_in sorted (Some q) = decides.Keep (record { chunk = q; sorted = sorted })

-- scripts make rules of two outcomes
abbrev pub outcome_decision : List Chunk → SectionRuleOutcome → Decision
outcome_decision chunks (sends.Section info) = kept_in info.sorted (slice_get chunks info.section_id)
outcome_decision chunks outcome = decides.Discard

-- a rule as plans see it
abbrev pub plan_rule : List Chunk → rules.Rule → Rule
plan_rule chunks rule = record { names = rule.matcher; files = rule.file; decision = outcome_decision chunks rule.outcome }

-- rules as plans see them
abbrev pub plan_rules : List Chunk → List rules.Rule → List Rule
plan_rules chunks rs = map (plan_rule chunks) rs

-- ---- the rules that are made

-- to the chunk of this number, or nowhere
abbrev pub outcome_for : Option ℕ → Bool → SectionPattern → SectionRuleOutcome
outcome_for None must_keep p = sends.Discard
outcome_for (Some k) must_keep p = sends.Section (record { section_id = k; must_keep = must_keep; sorted = p.sorted })

-- the rule, or none where there is a fault
abbrev pub rule_list : Result rules.Rule RuleFault → List rules.Rule
rule_list (Ok rule) = rule ∷ []
rule_list (Err f) = []

-- one rule for each pattern, to the chunk of this number
abbrev pub numbered_patterns : Option ℕ → Bool → Option Name → List SectionPattern → List rules.Rule
numbered_patterns k must_keep file [] = []
numbered_patterns k must_keep file (p ∷ ps) = rule_list (script_rule p.name file (outcome_for k must_keep p)) ++ numbered_patterns k must_keep file ps

-- the number of a chunk after these
abbrev pub number_for : List Chunk → Option Chunk → Option ℕ
number_for before None = None
number_for before (Some q) = Some (length before)

-- the rules of a place after these chunks
abbrev pub numbered_place : List Chunk → Place → List rules.Rule
numbered_place before (Collect q m) = numbered_patterns (number_for before q) m.must_keep m.input_file_pattern m.input_section_name_patterns
numbered_place before p = []

-- the chunk of a matcher, if it has one
abbrev pub chunks_at : Place → List Chunk
chunks_at (Collect q m) = option_to_list q
chunks_at p = []

-- the rules of places, of which the first is after these chunks
abbrev pub numbered_rules : List Chunk → List Place → List rules.Rule
numbered_rules before [] = []
numbered_rules before (p ∷ ps) = numbered_place before p ++ numbered_rules (before ++ chunks_at p) ps

-- the chunks of all matchers
abbrev pub chunks_in : List Place → List Chunk
chunks_in ps = flat_map chunks_at ps
