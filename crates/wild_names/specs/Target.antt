-- The names of output formats.
use Rattle.std.specs.Prelude.{ℕ, List, if◌then◌else◌, codes}
use Rattle.std.specs.Str.{bytes_eq}
use Rattle.wild_names.specs.declared.target.Architecture.{Architecture}
use Rattle.wild_names.specs.declared.target.Architecture.TheVariants.{X86_64, AArch64, RiscV64, LoongArch64, Unsupported}

-- the architecture of the output format with this name
unfoldable pub architecture_of : List ℕ → Architecture
architecture_of name =
    if bytes_eq name (codes "elf64-x86-64") then X86_64
    else if bytes_eq name (codes "elf64-littleaarch64") then AArch64
    else if bytes_eq name (codes "elf64-littleriscv") then RiscV64
    else if bytes_eq name (codes "elf64-loongarch") then LoongArch64
    else Unsupported
