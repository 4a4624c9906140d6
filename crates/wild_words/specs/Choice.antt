-- What one word of a command line chooses.
use Rattle.std.specs.Prelude.{ℕ, List, drop, length, Option, Some, None, nat_eq, codes, if◌then◌else◌}
use Rattle.std.specs.List.{starts_with}
use Rattle.std.specs.Option.{option_map, option_or, option_and_then}
use Rattle.std.specs.Str.{bytes_eq}
use Rattle.wild_names.specs.declared.target.Architecture.{Architecture}
use Rattle.wild_names.specs.declared.target.Architecture.TheVariants.{X86_64, AArch64, RiscV64, LoongArch64}
use Rattle.wild_names.specs.declared.target.Endianness.{Endianness}
use Rattle.wild_names.specs.declared.target.Endianness.TheVariants.{Little, Big}
use Rattle.wild_names.specs.declared.target.RelocationModel.TheVariants.{Fixed, PositionIndependent}
use Rattle.wild_output_kind.specs.declared.output_kind.OutputKind.{OutputKind}
use Rattle.wild_output_kind.specs.declared.output_kind.OutputKind.TheVariants.{StaticExecutable, DynamicExecutable, SharedObject, PartialLink}
use Rattle.wild_table.specs.Number.{number}
use Rattle.wild_words.specs.declared.choice.Choice.{Choice}
use Rattle.wild_words.specs.declared.choice.Choice.TheVariants as choice

-- ---- values

-- the kind of what is linked that a value names
unfoldable pub kind_of : List ℕ → Option OutputKind
kind_of value =
    if bytes_eq value (codes "static") then Some (StaticExecutable Fixed)
    else if bytes_eq value (codes "static-pie") then Some (StaticExecutable PositionIndependent)
    else if bytes_eq value (codes "dynamic") then Some (DynamicExecutable Fixed)
    else if bytes_eq value (codes "dynamic-pie") then Some (DynamicExecutable PositionIndependent)
    else if bytes_eq value (codes "shared") then Some SharedObject
    else if bytes_eq value (codes "partial") then Some PartialLink
    else None

-- the architecture that a value names
unfoldable pub architecture_of : List ℕ → Option Architecture
architecture_of value =
    if bytes_eq value (codes "x86_64") then Some X86_64
    else if bytes_eq value (codes "aarch64") then Some AArch64
    else if bytes_eq value (codes "riscv64") then Some RiscV64
    else if bytes_eq value (codes "loongarch64") then Some LoongArch64
    else None

-- the order of the bytes of a number that a value names
unfoldable pub endian_of : List ℕ → Option Endianness
endian_of value =
    if bytes_eq value (codes "little") then Some Little
    else if bytes_eq value (codes "big") then Some Big
    else None

-- ---- options

-- what follows these bytes in a word, if the word begins with them
unfoldable pub rest_after : List ℕ → List ℕ → Option (List ℕ)
rest_after front word = if starts_with nat_eq word front then Some (drop (length front) word) else None

-- the number that follows these bytes in a word, if the word begins with them
unfoldable pub number_after : List ℕ → List ℕ → Option ℕ
number_after front word = option_and_then number (rest_after front word)

-- the choice of a kind of what is linked
unfoldable pub kind_choice : List ℕ → Option Choice
kind_choice word = option_map choice.Kind (option_and_then kind_of (rest_after (codes "--kind=") word))

-- the choice of an architecture
unfoldable pub architecture_choice : List ℕ → Option Choice
architecture_choice word = option_map choice.Architecture (option_and_then architecture_of (rest_after (codes "--arch=") word))

-- the choice of an order of bytes
unfoldable pub endian_choice : List ℕ → Option Choice
endian_choice word = option_map choice.Endian (option_and_then endian_of (rest_after (codes "--endian=") word))

-- the choice of the size of the headers
unfoldable pub header_size_choice : List ℕ → Option Choice
header_size_choice word = option_map choice.HeaderSize (number_after (codes "--headers=") word)

-- the start of the text segment that a value chooses
unfoldable pub text_start : List ℕ → Option Choice
text_start value = option_map choice.TextStart (number_after (codes "text-segment=") value)

-- the start of the data segment that a value chooses
unfoldable pub data_start : List ℕ → Option Choice
data_start value = option_map choice.DataStart (number_after (codes "data-segment=") value)

-- the start of the bss segment that a value chooses
unfoldable pub bss_start : List ℕ → Option Choice
bss_start value = option_map choice.BssStart (number_after (codes "bss-segment=") value)

-- the start of a segment that a value chooses
abbrev pub start_of : List ℕ → Option Choice
start_of value = option_or (text_start value) (option_or (data_start value) (bss_start value))

-- the choice of the start of a segment
unfoldable pub start_choice : List ℕ → Option Choice
start_choice word = option_and_then start_of (rest_after (codes "--start=") word)

-- what a word chooses, if it is an option
unfoldable pub choice_of : List ℕ → Option Choice
choice_of word =
    option_or (kind_choice word) (
    option_or (architecture_choice word) (
    option_or (endian_choice word) (
    option_or (header_size_choice word) (start_choice word))))
