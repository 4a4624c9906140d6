-- What is chosen by the first of the option words.
use Rattle.std.specs.Prelude.{List, [], ◌∷◌, Option, Some, None, is_some, unwrap_or, if◌then◌else◌}
use Rattle.wild_names.specs.declared.target.Architecture.TheVariants.{X86_64}
use Rattle.wild_names.specs.declared.target.RelocationModel.TheVariants.{Fixed}
use Rattle.wild_output_kind.specs.declared.output_kind.OutputKind.TheVariants.{StaticExecutable}
use Rattle.wild_plan_spec.specs.declared.options.PlanOptions.{PlanOptions}
use Rattle.wild_words.specs.declared.choice.Choice.{Choice}
use Rattle.wild_words.specs.declared.choice.Choice.TheVariants as choice
use Rattle.wild_words.specs.declared.chosen.Chosen.{Chosen}

-- one choice more, unless the same question is answered already
abbrev pub with_choice : Chosen → Choice → Option Chosen
with_choice s (choice.Kind kind) = if is_some s.kind then None else Some (record s { kind = Some kind })
with_choice s (choice.Architecture architecture) = if is_some s.architecture then None else Some (record s { architecture = Some architecture })
with_choice s (choice.Endian endian) = if is_some s.endian then None else Some (record s { endian = Some endian })
with_choice s (choice.HeaderSize size) = if is_some s.header_size then None else Some (record s { header_size = Some size })
with_choice s (choice.TextStart start) = if is_some s.text_start then None else Some (record s { text_start = Some start })
with_choice s (choice.DataStart start) = if is_some s.data_start then None else Some (record s { data_start = Some start })
with_choice s (choice.BssStart start) = if is_some s.bss_start then None else Some (record s { bss_start = Some start })

-- what is chosen, and the default of what is not
abbrev pub options_so_far : Chosen → PlanOptions
options_so_far s = record {
  architecture = unwrap_or s.architecture X86_64;
  endian = s.endian;
  kind = unwrap_or s.kind (StaticExecutable Fixed);
  header_size = unwrap_or s.header_size 0;
  segment_starts = s.text_start ∷ s.data_start ∷ s.bss_start ∷ [];
}
