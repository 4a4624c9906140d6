-- Statements and places as they are kept, with their parts borrowed, and what they are.
use Rattle.std.specs.Prelude.{List, map}
use Rattle.std.specs.Option.{option_copied}
use Rattle.wild_plan_spec.specs.Statements as statements
use Rattle.wild_plan_spec.specs.Places as spec
use Rattle.wild_fates.specs.declared.statements.Statement.{Statement}
use Rattle.wild_fates.specs.declared.statements.Statement.TheVariants.{Inner, Outer}
use Rattle.wild_fates.specs.declared.places.Task.{Task}
use Rattle.wild_fates.specs.declared.places.Task.TheVariants.{Assign, Provide, Locate, Check}
use Rattle.wild_fates.specs.declared.places.Place.{Place}
use Rattle.wild_fates.specs.declared.places.Place.TheVariants.{SetLocation, Wait, Open, Collect, Rows, Close, Discard, Idle, Memory, Headers, Format}

-- a statement, without that it is borrowed
abbrev pub shown_statement : Statement → statements.Statement
shown_statement (Inner c) = statements.Inner c.now
shown_statement (Outer c) = statements.Outer c.now

-- the same of each
abbrev pub shown_statements : List Statement → List statements.Statement
shown_statements statements = map shown_statement statements

-- a task, without that it is borrowed
abbrev pub shown_task : Task → spec.Task
shown_task (Assign name e) = spec.Assign name.now e.now
shown_task (Provide d) = spec.Provide d.now
shown_task (Locate e) = spec.Locate e.now
shown_task (Check c) = spec.Check c.now

-- a place, without that it is borrowed
abbrev pub shown_place : Place → spec.Place
shown_place (SetLocation s e) = spec.SetLocation s e.now
shown_place (Wait w task) = spec.Wait w (shown_task task)
shown_place (Open s x) = spec.Open s (option_copied x)
shown_place (Collect q m) = spec.Collect q m.now
shown_place (Rows q) = spec.Rows q
shown_place (Close s rest) = spec.Close s rest
shown_place (Discard x) = spec.Discard x.now
shown_place Idle = spec.Idle
shown_place (Memory regions) = spec.Memory regions.now
shown_place (Headers headers) = spec.Headers headers.now
shown_place (Format format) = spec.Format format.now

-- the same of each
abbrev pub shown_places : List Place → List spec.Place
shown_places places = map shown_place places
