-- Where sections without name go.
use Rattle.std.specs.Prelude.{ℕ, Bool, ◌&&◌, if◌then◌else◌, Option, Some, None}
use Rattle.wild_ids.specs.declared.platform.PlatformIds as ids
use Rattle.wild_names.specs.declared.section_header.SectionHeader as header
use Rattle.wild_rules.specs.declared.outcome.SectionRuleOutcome.{SectionRuleOutcome}
use Rattle.wild_rules.specs.declared.outcome.SectionRuleOutcome.TheVariants.{Section, Discard}
use Rattle.wild_rules.specs.Outcomes.{regular}

-- the sections that a platform has for them
pub record Homes : Type 0 where
  pub text : Option ℕ
  pub data_section : Option ℕ
  pub bss : Option ℕ
  pub rodata : Option ℕ
  pub tdata : Option ℕ
  pub tbss : Option ℕ

-- those of a platform
abbrev pub homes : {P : Type 0} → ids.Ghosts P → Homes
homes platform = record {
  text = platform.TEXT_SECTION_ID;
  data_section = platform.DATA_SECTION_ID;
  bss = platform.BSS_SECTION_ID;
  rodata = platform.RODATA_SECTION_ID;
  tdata = platform.TDATA_SECTION_ID;
  tbss = platform.TBSS_SECTION_ID;
}

-- what the header of a section tells
pub record Told : Type 0 where
  pub alloc : Bool
  pub prog_bits : Bool
  pub no_bits : Bool
  pub executable : Bool
  pub writable : Bool
  pub tls : Bool

-- what this header tells
abbrev pub told : {H : Type 0} → header.Ghosts H → H → Told
told of x = record {
  alloc = of.is_alloc x;
  prog_bits = of.is_prog_bits x;
  no_bits = of.is_no_bits x;
  executable = of.is_executable x;
  writable = of.is_writable x;
  tls = of.is_tls x;
}

-- the section for code, each thread's own data, written data, or data that is only read
abbrev pub home_of_bits : Homes → Told → Option ℕ
home_of_bits homes told =
    if told.executable then homes.text
    else if told.tls then homes.tdata
    else if told.writable then homes.data_section
    else homes.rodata

-- the section for zeros, each thread's own or not
abbrev pub home_of_zeros : Homes → Told → Option ℕ
home_of_zeros homes told = if told.tls then homes.tbss else homes.bss

-- the section for what is in memory, with or without bits
abbrev pub home_of : Homes → Told → Option ℕ
home_of homes told =
    if told.alloc && told.prog_bits then home_of_bits homes told
    else if told.alloc && told.no_bits then home_of_zeros homes told
    else None

-- to this section, or nowhere
abbrev pub sent_home : Option ℕ → SectionRuleOutcome
sent_home None = Discard
sent_home (Some id) = Section (regular id)

-- to the platform's section for it, or nowhere
abbrev pub unnamed_outcome : Homes → Told → SectionRuleOutcome
unnamed_outcome homes told = sent_home (home_of homes told)
