-- Words that outermost commands begin with.
use Rattle.std.specs.Prelude.{if◌then◌else◌, Option, Some, None, codes}
use Rattle.std.specs.Str.{bytes_eq}
use Rattle.wild_reading.specs.Position.{Bytes}
use Rattle.wild_script.specs.declared.words.CommandWord.{CommandWord}
use Rattle.wild_script.specs.declared.words.CommandWord.TheVariants as c
use Rattle.wild_script.specs.declared.words.Nest.TheVariants as n

-- the word of a command that these bytes are
abbrev pub command_word : Bytes → Option CommandWord
command_word content =
    if bytes_eq content (codes "GROUP") then Some (c.Nest n.Group) else (
    if bytes_eq content (codes "INPUT") then Some (c.Nest n.Group) else (
    if bytes_eq content (codes "AS_NEEDED") then Some (c.Nest n.AsNeeded) else (
    if bytes_eq content (codes "OUTPUT_ARCH") then Some (c.Nest n.Ignored) else (
    if bytes_eq content (codes "OUTPUT_FORMAT") then Some c.OutputFormat else (
    if bytes_eq content (codes "SECTIONS") then Some c.Sections else (
    if bytes_eq content (codes "ENTRY") then Some c.Entry else (
    if bytes_eq content (codes "VERSION") then Some c.Version else (
    if bytes_eq content (codes "PROVIDE") then Some c.Provide else (
    if bytes_eq content (codes "PROVIDE_HIDDEN") then Some c.ProvideHidden else (
    if bytes_eq content (codes "ASSERT") then Some c.Assert else (
    if bytes_eq content (codes "MEMORY") then Some c.Memory else (
    if bytes_eq content (codes "PHDRS") then Some c.Phdrs else None))))))))))))
