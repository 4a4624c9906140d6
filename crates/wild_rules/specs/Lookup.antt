-- Which rule of a list counts, and where it sends a section.
use Rattle.std.specs.Prelude.{◌≡◌, ◌≢◌, ◌⊎◌, ◌↔◌, ◌<◌, ℕ, Bool, true, false, not, ◌&&◌, List, [], ◌∷◌, slice_get, Option, Some, None}
use Rattle.std.specs.List.{find}
use Rattle.wild_rules.specs.declared.outcome.SectionRuleOutcome.{SectionRuleOutcome}
use Rattle.wild_rules.specs.declared.outcome.SectionRuleOutcome.TheVariants.{Custom}
use Rattle.wild_rules.specs.Outcomes.{is_discard}
use Rattle.wild_rules.specs.Rule.{Rule}
use Rattle.wild_rules.specs.Taking.{takes}

-- the first rule that takes the section; no rule takes one without name
abbrev pub first_rule : List Rule → List ℕ → Option (List ℕ) → Option Rule
first_rule rules [] file_name = None
first_rule rules (b ∷ bs) file_name = find (takes (b ∷ bs) file_name) rules

-- the rule has this number and takes the section, and none of a lower number does
pub record IsLowest (rules : List Rule) (section_name : List ℕ) (file_name : Option (List ℕ)) (rule : Rule) (number : ℕ) : Type 0 where
  pub there : slice_get rules number ≡ Some rule
  pub takes_it : takes section_name file_name rule ≡ true
  pub lowest : (lower : ℕ) (earlier : Rule) → lower < number → slice_get rules lower ≡ Some earlier → takes section_name file_name earlier ≡ false

-- no rule takes the section
abbrev pub NoneTakes : List Rule → List ℕ → Option (List ℕ) → Type 0
NoneTakes rules section_name file_name = (number : ℕ) (rule : Rule) → slice_get rules number ≡ Some rule → takes section_name file_name rule ≡ false

-- the rule that counts is the lowest-numbered one that takes the section, which has a name
abbrev pub LowestCounts : Type 0
LowestCounts = (rules : List Rule) (section_name : List ℕ) (file_name : Option (List ℕ)) (rule : Rule)
    → (first_rule rules section_name file_name ≡ Some rule) ↔ ((section_name ≢ []) × ((number : ℕ) × IsLowest rules section_name file_name rule number))

-- none counts exactly where the section has no name or no rule takes it
abbrev pub NoneCounts : Type 0
NoneCounts = (rules : List Rule) (section_name : List ℕ) (file_name : Option (List ℕ))
    → (first_rule rules section_name file_name ≡ None) ↔ ((section_name ≡ []) ⊎ NoneTakes rules section_name file_name)

-- where the rule sends the section; without one, where it goes unnamed, or Custom where it has a name
abbrev pub sent : Option Rule → List ℕ → SectionRuleOutcome → SectionRuleOutcome
sent (Some rule) section_name unnamed = rule.outcome
sent None [] unnamed = unnamed
sent None (b ∷ bs) unnamed = Custom

-- whether a section that this rule takes, or none, is an orphan: no rule takes it, or in the presence of a script a rule
-- from outside it that doesn't discard it
abbrev pub is_orphan : Bool → Option Rule → Bool
is_orphan has_linker_script None = true
is_orphan has_linker_script (Some rule) = not (is_discard rule.outcome) && has_linker_script && not rule.from_script
