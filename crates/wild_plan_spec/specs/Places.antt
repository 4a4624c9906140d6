-- The places of a script, as one numbered list.
use Rattle.std.specs.Prelude.{ℕ, ◌+◌, List, [], ◌∷◌, ◌++◌, if◌then◌else◌, Option, Some, None}
use Rattle.wild_expression_tree.specs.declared.tree.AssertCommand.{AssertCommand}
use Rattle.wild_expression_tree.specs.declared.tree.Expression.{Expression}
use Rattle.wild_script_tree.specs.declared.tree.Command.{Command}
use Rattle.wild_script_tree.specs.declared.tree.Command.TheVariants as command
use Rattle.wild_script_tree.specs.declared.tree.MemoryRegion.{MemoryRegion}
use Rattle.wild_script_tree.specs.declared.tree.OutputFormat.{OutputFormat}
use Rattle.wild_script_tree.specs.declared.tree.Phdr.{Phdr}
use Rattle.wild_script_tree.specs.declared.tree.ProvideSymbolDefinition.{ProvideSymbolDefinition}
use Rattle.wild_script_tree.specs.declared.tree.Section.{Section}
use Rattle.wild_script_tree.specs.declared.tree.SectionCommand.{SectionCommand}
use Rattle.wild_script_tree.specs.declared.tree.SectionCommand.TheVariants as inner
use Rattle.wild_script_tree.specs.declared.tree.ContentsCommand.{ContentsCommand}
use Rattle.wild_script_tree.specs.declared.tree.ContentsCommand.TheVariants as contents
use Rattle.wild_script_tree.specs.declared.tree.Matcher.{Matcher}
use Rattle.wild_plan_spec.specs.declared.chunk.Chunk.{Chunk}
use Rattle.wild_plan_spec.specs.declared.place.Where.{Where}
use Rattle.wild_plan_spec.specs.declared.place.Where.TheVariants.{Outermost, Between, Inside}
use Rattle.wild_plan_spec.specs.Names.{Name}
use Rattle.wild_plan_spec.specs.Statements.{Statement, Inner, Outer, is_discard, statements_of}

-- what is evaluated once all places are laid out
pub data Task : Type 0 where
  -- a symbol becomes the value of an expression
  Assign : Name → Expression → Task
  -- the same, where nothing else defines it
  Provide : ProvideSymbolDefinition → Task
  -- the location counter becomes that outside of SECTIONS, where it has no effect
  Locate : Expression → Task
  -- a condition must hold
  Check : AssertCommand → Task

-- a place of a script
pub data Place : Type 0 where
  -- the location counter becomes the value of an expression; in the contents of this section its cursor does
  SetLocation : Option ℕ → Expression → Place
  -- a task, which waits until all places are laid out
  Wait : Where → Task → Place
  -- the section of this number begins: one of the script, or an orphan
  Open : ℕ → Option Section → Place
  -- a matcher, with the rows of the chunk for which it collects; those of `/DISCARD/` collect for none
  Collect : Option Chunk → Matcher → Place
  -- the rows of the one chunk of an orphan
  Rows : Chunk → Place
  -- the rest of the section of this number is placed, where it has a chunk of its own, and the section ends
  Close : ℕ → Option Chunk → Place
  -- `/DISCARD/` begins, which does nothing
  Discard : Section → Place
  -- `/DISCARD/` ends, or what stands here does nothing
  Idle : Place
  -- memory regions, of which the last MEMORY has those that count
  Memory : List MemoryRegion → Place
  -- program headers
  Headers : List Phdr → Place
  -- the format of the output
  Format : OutputFormat → Place

-- a statement of section s, whose chunk, if it is a matcher, has this number
abbrev pub content_place : ℕ → ℕ → ContentsCommand → Place
content_place s number (contents.Matcher m) = Collect (Some (record { «section» = s; number = number })) m
content_place s number (contents.SymbolAssignment a) = Wait (Inside s) (Assign a.name a.expr)
content_place s number (contents.Provide d) = Wait (Inside s) (Provide d)
content_place s number (contents.SetLocation l) = SetLocation (Some s) l.address
content_place s number contents.Constructors = Idle
content_place s number (contents.Assert c) = Wait (Inside s) (Check c)

-- the number of the next chunk after a statement
abbrev pub next_chunk : ℕ → ContentsCommand → ℕ
next_chunk number (contents.Matcher m) = number + 1
next_chunk number c = number

-- the statements of section s, whose next chunk has this number
abbrev pub contents_places : ℕ → ℕ → List ContentsCommand → List Place
contents_places s number [] = []
contents_places s number (c ∷ cs) = content_place s number c ∷ contents_places s (next_chunk number c) cs

-- a section without matchers has a chunk of its own for what joins it by name
abbrev pub rest_chunk : ℕ → List ContentsCommand → Option Chunk
rest_chunk s [] = Some (record { «section» = s; number = 0 })
rest_chunk s (contents.Matcher m ∷ cs) = None
rest_chunk s (c ∷ cs) = rest_chunk s cs

-- section s begins, its statements, and it ends
abbrev pub section_places : ℕ → Section → List Place
section_places s x = Open s (Some x) ∷ (contents_places s 0 x.commands ++ Close s (rest_chunk s x.commands) ∷ [])

-- a statement of `/DISCARD/`, where only matchers may stand
abbrev pub discarding_place : ContentsCommand → Place
discarding_place (contents.Matcher m) = Collect None m
discarding_place c = Idle

-- its statements
abbrev pub discarding_places : List ContentsCommand → List Place
discarding_places [] = []
discarding_places (c ∷ cs) = discarding_place c ∷ discarding_places cs

-- `/DISCARD/` begins, its statements, and it ends
abbrev pub discard_places : Section → List Place
discard_places x = Discard x ∷ (discarding_places x.commands ++ Idle ∷ [])

-- a statement in SECTIONS, whose section, if it is one, has the number s
abbrev pub inner_places : ℕ → SectionCommand → List Place
inner_places s (inner.Section x) = if is_discard x then discard_places x else section_places s x
inner_places s (inner.SetLocation l) = SetLocation None l.address ∷ []
inner_places s (inner.SymbolAssignment a) = Wait Between (Assign a.name a.expr) ∷ []
inner_places s (inner.Provide d) = Wait Between (Provide d) ∷ []
inner_places s (inner.Assert c) = Wait Between (Check c) ∷ []

-- an outermost command other than SECTIONS, behind so many sections
abbrev pub outer_places : ℕ → Command → List Place
outer_places s (command.SymbolDefinition name value) = Wait (Outermost s) (Assign name value) ∷ []
outer_places s (command.SetLocation l) = Wait (Outermost s) (Locate l.address) ∷ []
outer_places s (command.Provide d) = Wait (Outermost s) (Provide d) ∷ []
outer_places s (command.Assert c) = Wait (Outermost s) (Check c) ∷ []
outer_places s (command.Arg name) = Idle ∷ []
outer_places s (command.Group' shape cs) = Idle ∷ []
outer_places s (command.AsNeeded' shape cs) = Idle ∷ []
outer_places s command.Ignored = Idle ∷ []
outer_places s (command.Entry name) = Idle ∷ []
outer_places s (command.Version content) = Idle ∷ []
outer_places s (command.Memory regions) = Memory regions ∷ []
outer_places s (command.Phdrs headers) = Headers headers ∷ []
outer_places s (command.OutputFormat format) = Format format ∷ []
outer_places s (command.Sections cs) = []

-- the places of a statement behind s sections; its section, if it is one, has this number
abbrev pub statement_places : ℕ → Statement → List Place
statement_places s (Inner c) = inner_places s c
statement_places s (Outer c) = outer_places s c

-- the number of the next section after a statement
abbrev pub next_section : ℕ → Statement → ℕ
next_section s (Inner (inner.Section x)) = if is_discard x then s else s + 1
next_section s st = s

-- the next section of the list has the number s
abbrev pub all_places : ℕ → List Statement → List Place
all_places s [] = []
all_places s (st ∷ sts) = statement_places s st ++ all_places (next_section s st) sts

-- in text order
abbrev pub script_places : List Command → List Place
script_places t = all_places 0 (statements_of t)
