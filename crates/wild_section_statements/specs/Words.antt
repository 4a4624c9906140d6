-- Words that statements begin with.
use Rattle.std.specs.Prelude.{Bool, not, ◌&&◌, if◌then◌else◌, Option, Some, None, codes}
use Rattle.std.specs.Str.{bytes_eq}
use Rattle.wild_reading.specs.Position.{Bytes}
use Rattle.wild_reading.specs.Lex.{Word}
use Rattle.wild_section_statements.specs.declared.words.ContentsWord.{ContentsWord}
use Rattle.wild_section_statements.specs.declared.words.ContentsWord.TheVariants as k
use Rattle.wild_section_statements.specs.declared.words.StatementWord.{StatementWord}
use Rattle.wild_section_statements.specs.declared.words.StatementWord.TheVariants as s

-- the word of a statement of SECTIONS that these bytes are
abbrev pub statement_word : Bytes → Option StatementWord
statement_word content =
    if bytes_eq content (codes "ASSERT") then Some s.Assert else (
    if bytes_eq content (codes "PROVIDE") then Some s.Provide else (
    if bytes_eq content (codes "PROVIDE_HIDDEN") then Some s.ProvideHidden else None))

-- the word before the bracket of a statement in a section that a token is, which is never in quotes
abbrev pub contents_word : Word → Option ContentsWord
contents_word w =
    if w.quoted then None else (
    if bytes_eq w.content (codes "PROVIDE") then Some k.Provide else (
    if bytes_eq w.content (codes "PROVIDE_HIDDEN") then Some k.ProvideHidden else (
    if bytes_eq w.content (codes "ASSERT") then Some k.Assert else (
    if bytes_eq w.content (codes "KEEP") then Some k.Keep else None))))

-- the word that stands alone, not in quotes
unfoldable pub is_constructors : Word → Bool
is_constructors w = not w.quoted && bytes_eq w.content (codes "CONSTRUCTORS")
