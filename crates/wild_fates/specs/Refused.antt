-- Which of two patterns makes no rule.
use Rattle.std.specs.Prelude.{Option, Some, None}
use Rattle.wild_rules.specs.declared.fault.RuleFault.{RuleFault}
use Rattle.wild_rules.specs.declared.fault.RuleFault.TheVariants.{BadFile, BadSection, NoMemory}
use Rattle.wild_plan_spec.specs.Names.{Name}

-- the file pattern, if the fault is its, and else the section pattern
abbrev pub bad_name : Option Name → Name → RuleFault → Name
bad_name None name f = name
bad_name (Some file) name BadFile = file
bad_name (Some file) name BadSection = name
bad_name (Some file) name NoMemory = name
