-- Where each row goes.
use Rattle.std.specs.Prelude.{ℕ, Bool, false, not, List, [], ◌∷◌, ◌++◌, Option, Some, None, if◌then◌else◌}
use Rattle.std.specs.List.{filter, list_any}
use Rattle.wild_names.specs.InputFlags.{is_exclude}
use Rattle.wild_numbering.specs.Numbering.{is_named, number_of}
use Rattle.wild_script_tree.specs.declared.tree.Command.{Command}
use Rattle.wild_script_tree.specs.declared.tree.Section.{Section}
use Rattle.wild_plan_spec.specs.declared.chunk.Kept.{Kept}
use Rattle.wild_plan_spec.specs.declared.chunk.Decision.{Decision}
use Rattle.wild_plan_spec.specs.declared.chunk.Decision.TheVariants.{Discard, Keep, ByName}
use Rattle.wild_plan_spec.specs.declared.row.InputRow.{InputRow}
use Rattle.wild_plan_spec.specs.declared.row.InputTable.{InputTable}
use Rattle.wild_plan_spec.specs.Names.{Name}
use Rattle.wild_plan_spec.specs.Rules.{Rule, rules_of, first_rule}
use Rattle.wild_plan_spec.specs.Statements.{sections_of}

-- ---- what is decided without the names of sections

-- what the first rule that takes a row decides; without one its name decides
abbrev pub rule_decision : Option Rule → Decision
rule_decision None = ByName
rule_decision (Some rule) = rule.decision

-- a row of this name: without one it is discarded
abbrev pub name_decision : Name → List Rule → InputRow → Decision
name_decision [] rules row = Discard
name_decision (b ∷ bs) rules row = rule_decision (first_rule rules row)

-- what is to be left out is discarded
unfoldable pub decision : List Rule → InputRow → Decision
decision rules row = if is_exclude row.flags then Discard else name_decision row.«section» rules row

-- ---- the names of sections

-- none of the names is x
abbrev pub lacks : List Name → Name → Bool
lacks names x = not (list_any (is_named x) names)

-- each name once, where it stands first
abbrev pub firsts : List Name → List Name
firsts [] = []
firsts (x ∷ xs) = x ∷ filter (lacks (x ∷ [])) (firsts xs)

-- the name of a row, where the row goes by it
abbrev pub asked_by : Name → Decision → List Name
asked_by x ByName = x ∷ []
asked_by x Discard = []
asked_by x (Keep k) = []

-- the names that rows go by
abbrev pub names_asked : List Rule → List InputRow → List Name
names_asked rules [] = []
names_asked rules (row ∷ rows) = asked_by row.«section» (decision rules row) ++ names_asked rules rows

-- those of them that no section has, in the order in which they appear
abbrev pub orphans : List Name → List Name → List Name
orphans own asked = firsts (filter (lacks own) asked)

-- the names of sections, in order
abbrev pub names_of : List Section → List Name
names_of [] = []
names_of (s ∷ ss) = s.output_section_name ∷ names_of ss

-- the orphan sections: rows go by their names, and no section of the script has them
abbrev pub orphans_of : List Command → InputTable → List Name
orphans_of t inputs = orphans (names_of (sections_of t)) (names_asked (rules_of t) inputs.rows)

-- the names of all sections, by their numbers: those of the script, and after them the orphans
abbrev pub section_names : List Command → InputTable → List Name
section_names t inputs = names_of (sections_of t) ++ orphans_of t inputs

-- ---- fates

-- the first chunk of a section, where nothing is sorted
abbrev pub first_chunk : Option ℕ → Option Kept
first_chunk None = None
first_chunk (Some s) = Some (record { chunk = record { «section» = s; number = 0 }; sorted = false })

-- the fate of a row of this name, of which this is decided
abbrev pub fate_by : List Name → Name → Decision → Option Kept
fate_by names x Discard = None
fate_by names x (Keep k) = Some k
fate_by names x ByName = first_chunk (number_of x names)

-- where a row goes among sections of these names, or None where it is discarded
abbrev pub fate : List Rule → List Name → InputRow → Option Kept
fate rules names row = fate_by names row.«section» (decision rules row)

-- the fate of each row
abbrev pub all_fates : List Rule → List Name → List InputRow → List (Option Kept)
all_fates rules names [] = []
all_fates rules names (row ∷ rows) = fate rules names row ∷ all_fates rules names rows

-- the fate of each row, in table order
abbrev pub fates_of : List Command → InputTable → List (Option Kept)
fates_of t inputs = all_fates (rules_of t) (section_names t inputs) inputs.rows
