-- The statements of a script, as one list.
use Rattle.std.specs.Prelude.{Bool, ◌&&◌, ◌==◌, length, List, [], ◌∷◌, ◌++◌, if◌then◌else◌, codes}
use Rattle.std.specs.Option.{is_none}
use Rattle.std.specs.Str.{bytes_eq}
use Rattle.wild_script_tree.specs.declared.tree.Command.{Command}
use Rattle.wild_script_tree.specs.declared.tree.Command.TheVariants.{Sections}
use Rattle.wild_script_tree.specs.declared.tree.SectionCommand.{SectionCommand}
use Rattle.wild_script_tree.specs.declared.tree.SectionCommand.TheVariants.{Section as OfSection}
use Rattle.wild_script_tree.specs.declared.tree.Section.{Section}

-- a statement of a script
pub data Statement : Type 0 where
  -- in SECTIONS
  Inner : SectionCommand → Statement
  -- an outermost command other than SECTIONS
  Outer : Command → Statement

-- the statements in a SECTIONS
abbrev pub inner_statements : List SectionCommand → List Statement
inner_statements [] = []
inner_statements (c ∷ cs) = Inner c ∷ inner_statements cs

-- what an outermost command holds: SECTIONS its statements, any other itself
abbrev pub command_statements : Command → List Statement
command_statements (Sections s) = inner_statements s.commands
command_statements c = Outer c ∷ []

-- the statements of a script, in text order, whichever SECTIONS they stand in
abbrev pub statements_of : List Command → List Statement
statements_of [] = []
statements_of (c ∷ cs) = command_statements c ++ statements_of cs

-- `/DISCARD/` is no section of the output: what it collects is discarded
unfoldable pub is_discard : Section → Bool
is_discard s = bytes_eq s.output_section_name (codes "/DISCARD/")

-- nothing is said of it before or after its statements
abbrev pub is_plain : Section → Bool
is_plain s = is_none s.alignment
    && (is_none s.start_address_expression
    && (length s.phdrs == 0
    && (is_none s.at_address
    && (is_none s.region
    && (is_none s.fill
    && is_none s.attributes)))))

-- the section that a statement is, if it is one
abbrev pub sections_in : Statement → List Section
sections_in (Inner (OfSection s)) = if is_discard s then [] else s ∷ []
sections_in st = []

-- the sections among statements
abbrev pub statement_sections : List Statement → List Section
statement_sections [] = []
statement_sections (st ∷ sts) = sections_in st ++ statement_sections sts

-- the sections of a script other than `/DISCARD/`, in text order; their numbers are their places in this list
abbrev pub sections_of : List Command → List Section
sections_of t = statement_sections (statements_of t)
