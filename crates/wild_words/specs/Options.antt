-- What the option words of a command line choose together.
use Rattle.std.specs.Prelude.{ℕ, Bool, true, false, not, ◌&&◌, List, [], ◌∷◌, Option, Some, None, unwrap_or, if◌then◌else◌}
use Rattle.std.specs.List.{list_any}
use Rattle.std.specs.Option.{option_map, option_or, option_and_then}
use Rattle.wild_names.specs.declared.target.Architecture.{Architecture}
use Rattle.wild_names.specs.declared.target.Architecture.TheVariants.{X86_64}
use Rattle.wild_names.specs.declared.target.Endianness.{Endianness}
use Rattle.wild_names.specs.declared.target.RelocationModel.TheVariants.{Fixed}
use Rattle.wild_output_kind.specs.declared.output_kind.OutputKind.{OutputKind}
use Rattle.wild_output_kind.specs.declared.output_kind.OutputKind.TheVariants.{StaticExecutable}
use Rattle.wild_plan_spec.specs.declared.options.PlanOptions.{PlanOptions}
use Rattle.wild_words.specs.declared.choice.Choice.{Choice}
use Rattle.wild_words.specs.declared.choice.Choice.TheVariants as c
use Rattle.wild_words.specs.Choice.{choice_of}

-- ---- what each word chooses

-- a choice before others, if both are there
abbrev pub before : Option Choice → Option (List Choice) → Option (List Choice)
before None choices = None
before (Some choice) choices = option_map (λ later. choice ∷ later) choices

-- what the words choose, if each is an option
unfoldable pub choices_of : List (List ℕ) → Option (List Choice)
choices_of [] = Some []
choices_of (word ∷ words) = before (choice_of word) (choices_of words)

-- ---- one answer to each question

-- two choices answer the same question
abbrev pub answer_same : Choice → Choice → Bool
answer_same (c.Kind a) (c.Kind b) = true
answer_same (c.Architecture a) (c.Architecture b) = true
answer_same (c.Endian a) (c.Endian b) = true
answer_same (c.HeaderSize a) (c.HeaderSize b) = true
answer_same (c.TextStart a) (c.TextStart b) = true
answer_same (c.DataStart a) (c.DataStart b) = true
answer_same (c.BssStart a) (c.BssStart b) = true
answer_same a b = false

-- no two choices answer the same question
abbrev pub are_distinct : List Choice → Bool
are_distinct [] = true
are_distinct (choice ∷ choices) = not (list_any (answer_same choice) choices) && are_distinct choices

-- ---- answers

-- the kind in a choice, if it has one
abbrev pub kind_in : Choice → Option OutputKind
kind_in (c.Kind kind) = Some kind
kind_in choice = None

-- the architecture in a choice, if it has one
abbrev pub architecture_in : Choice → Option Architecture
architecture_in (c.Architecture architecture) = Some architecture
architecture_in choice = None

-- the order of bytes in a choice, if it has one
abbrev pub endian_in : Choice → Option Endianness
endian_in (c.Endian endian) = Some endian
endian_in choice = None

-- the size of the headers in a choice, if it has one
abbrev pub header_size_in : Choice → Option ℕ
header_size_in (c.HeaderSize size) = Some size
header_size_in choice = None

-- the start of the text segment in a choice, if it has one
abbrev pub text_start_in : Choice → Option ℕ
text_start_in (c.TextStart start) = Some start
text_start_in choice = None

-- the start of the data segment in a choice, if it has one
abbrev pub data_start_in : Choice → Option ℕ
data_start_in (c.DataStart start) = Some start
data_start_in choice = None

-- the start of the bss segment in a choice, if it has one
abbrev pub bss_start_in : Choice → Option ℕ
bss_start_in (c.BssStart start) = Some start
bss_start_in choice = None

-- the answer to a question, if a choice has one
abbrev pub chosen : {A : Type 0} → (Choice → Option A) → List Choice → Option A
chosen answer [] = None
chosen answer (choice ∷ choices) = option_or (answer choice) (chosen answer choices)

-- ---- options

-- what is chosen, and the default of what is not
abbrev pub with_defaults : List Choice → PlanOptions
with_defaults choices = record {
  architecture = unwrap_or (chosen architecture_in choices) X86_64;
  endian = chosen endian_in choices;
  kind = unwrap_or (chosen kind_in choices) (StaticExecutable Fixed);
  header_size = unwrap_or (chosen header_size_in choices) 0;
  segment_starts = chosen text_start_in choices ∷ chosen data_start_in choices ∷ chosen bss_start_in choices ∷ [];
}

-- the options of these choices, if no two answer the same question
abbrev pub options_of_choices : List Choice → Option PlanOptions
options_of_choices choices = if are_distinct choices then Some (with_defaults choices) else None

-- the options that words choose: each is an option, and no two answer the same question
unfoldable pub options_of : List (List ℕ) → Option PlanOptions
options_of words = option_and_then options_of_choices (choices_of words)
