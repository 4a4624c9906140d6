-- A MEMORY and a PHDRS as they are kept, with their parts borrowed, and what they are.
use Rattle.std.specs.Prelude.{List, [], ◌∷◌, if◌then◌else◌}
use Rattle.wild_script_tree.specs.declared.tree.SectionCommand.{SectionCommand}
use Rattle.wild_script_tree.specs.declared.tree.SectionCommand.TheVariants.{Section as OfSection}
use Rattle.wild_plan_spec.specs.Headers.{own_headers}
use Rattle.wild_plan_spec.specs.Headers as headers
use Rattle.wild_plan_spec.specs.Names.{Name}
use Rattle.wild_plan_spec.specs.Regions as spec
use Rattle.wild_plan_spec.specs.Statements.{is_discard}
use Rattle.wild_fates.specs.declared.headers.HeadersAt.{HeadersAt}
use Rattle.wild_fates.specs.declared.regions.MemoryAt.{MemoryAt}

-- a MEMORY, without that its regions are borrowed
abbrev pub shown_memory : MemoryAt → spec.MemoryAt
shown_memory m = record { place = m.place; regions = m.regions.now }

-- a PHDRS, without that its headers are borrowed
abbrev pub shown_headers : HeadersAt → headers.HeadersAt
shown_headers h = record { place = h.place; headers = h.headers.now }

-- the headers that hold the section that a statement is, if it is one, and else those that hold the one before
abbrev pub headers_behind : List Name → SectionCommand → List Name
headers_behind before (OfSection x) = if is_discard x then before else own_headers before x.phdrs
headers_behind before c = before

-- these, if a statement is a section that they hold
abbrev pub headers_here : List Name → SectionCommand → List (List Name)
headers_here held (OfSection x) = if is_discard x then [] else (held ∷ [])
headers_here held c = []
