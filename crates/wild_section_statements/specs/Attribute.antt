-- Attributes of sections, in brackets before the colon.
use Rattle.std.specs.Prelude.{ℕ, Bool, if◌then◌else◌, Option, Some, None, codes}
use Rattle.std.specs.Option.{is_some}
use Rattle.std.specs.Str.{bytes_eq}
use Rattle.wild_reading.specs.Position.{Bytes}
use Rattle.wild_reading.specs.Lex.{Word, and_end, after_byte, after_symbol, word_at}
use Rattle.wild_reading.specs.Reader.{Reader, Takes}
use Rattle.wild_script_tree.specs.declared.tree.SectionAttributes.{SectionAttributes}
use Rattle.wild_script_tree.specs.declared.tree.SectionAttributes.TheVariants as a

-- the attribute that these bytes name
abbrev pub attribute_of : Bytes → Option SectionAttributes
attribute_of content =
    if bytes_eq content (codes "NOLOAD") then Some a.Noload else (
    if bytes_eq content (codes "READONLY") then Some a.Readonly else (
    if bytes_eq content (codes "DSECT") then Some a.Dsect else (
    if bytes_eq content (codes "COPY") then Some a.Copy else (
    if bytes_eq content (codes "INFO") then Some a.Info else (
    if bytes_eq content (codes "OVERLAY") then Some a.Overlay else None)))))

-- the bracket that closes is at a position
abbrev pub closed_attribute : Bytes → Option SectionAttributes → ℕ → Option (SectionAttributes × ℕ)
closed_attribute b None i = None
closed_attribute b (Some found) i = and_end found (after_byte 41 b i)

-- after the token in the brackets
abbrev pub named_attribute : Bytes → Option (Word × ℕ) → Option (SectionAttributes × ℕ)
named_attribute b None = None
named_attribute b (Some found) = closed_attribute b (attribute_of found.0.content) found.1

-- after the bracket that opens
abbrev pub opened_attribute : Bytes → Option ℕ → Option (SectionAttributes × ℕ)
opened_attribute b None = None
opened_attribute b (Some i) = named_attribute b (word_at b i)

-- an attribute in brackets, with the gaps between them, and the position after it
unfoldable pub attribute_at : Bytes → ℕ → Option (SectionAttributes × ℕ)
attribute_at b i = opened_attribute b (after_symbol 40 b i)

-- as a step
unfoldable pub attribute : Reader SectionAttributes
attribute = Takes attribute_at

-- one can be read whole
unfoldable pub begins_attribute : Bytes → ℕ → Bool
begins_attribute b i = is_some (attribute_at b i)
