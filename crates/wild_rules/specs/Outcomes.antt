-- Where rules send input sections.
use Rattle.std.specs.Prelude.{ℕ, Bool, true, false, ◌==◌, if◌then◌else◌, Option, Some, None}
use Rattle.wild_rules.specs.declared.outcome.SectionOutputInfo.{SectionOutputInfo}
use Rattle.wild_rules.specs.declared.outcome.SectionRuleOutcome.{SectionRuleOutcome}
use Rattle.wild_rules.specs.declared.outcome.SectionRuleOutcome.TheVariants.{Section, Discard, Custom, EhFrame, NoteGnuProperty, NoteGnuStack, Debug, DebugIndex, RiscVAttribute, AArch64Attribute, SortedSection, InitFunc, CompactUnwind}

-- the output section, with nothing asked
abbrev pub regular : ℕ → SectionOutputInfo
regular id = record { section_id = id; must_keep = false; sorted = false }

-- the output section, whose input sections are kept
abbrev pub keep : ℕ → SectionOutputInfo
keep id = record { section_id = id; must_keep = true; sorted = false }

-- whether an outcome is Discard
abbrev pub is_discard : SectionRuleOutcome → Bool
is_discard Discard = true
is_discard (Section info) = false
is_discard Custom = false
is_discard EhFrame = false
is_discard NoteGnuProperty = false
is_discard NoteGnuStack = false
is_discard Debug = false
is_discard DebugIndex = false
is_discard RiscVAttribute = false
is_discard AArch64Attribute = false
is_discard (SortedSection info) = false
is_discard InitFunc = false
is_discard CompactUnwind = false

-- whether a platform has this section, under this id
abbrev pub is_section : Option ℕ → ℕ → Bool
is_section None id = false
is_section (Some built_in) id = built_in == id

-- the outcome of a rule for the output section of this id
abbrev pub outcome_from_id : Option ℕ → Option ℕ → Option ℕ → ℕ → SectionOutputInfo → SectionRuleOutcome
outcome_from_id eh_frame note_gnu_property riscv_attributes id info =
    if is_section eh_frame id then EhFrame
    else if is_section note_gnu_property id then NoteGnuProperty
    else if is_section riscv_attributes id then RiscVAttribute
    else Section info
