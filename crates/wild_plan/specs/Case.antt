-- A case as it is kept, with its parts borrowed, and what it is.
use Rattle.wild_plan_spec.specs.Case as spec
use Rattle.wild_plan.specs.declared.case.Case.{Case}

-- a case, without that it is borrowed
abbrev pub shown_case : Case → spec.Case
shown_case c = record { script = c.script.now; commands = c.commands.now; inputs = c.inputs.now; options = c.options.now }
