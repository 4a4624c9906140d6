use Rattle.std.proofs.Common.{◌≡◌, ◌≤◌, ◌+◌, drop}
use Rattle.std.specs.Option.{option_copied}
use Rattle.wild_rules.specs.Index.{takes_at}
use Rattle.wild_rules.proofs.Found.{found_along, tried_along}
use Rattle.wild_rules.proofs.section_rules.SectionRules.first_number.Given as goal

-- what is found and tried from here on is what was to be found and tried
abbrev pub invariant-loop-length : goal.invariant-loop-length
invariant-loop-length g l =
    (found_along l.self-inside.index (takes_at l.section_name (option_copied l.file_name) l.rules) l.section_name (drop l.length-index l.length-items) l.best
    ≡ found_along l.self-inside.index (takes_at l.section_name (option_copied l.file_name) l.rules) l.section_name l.length-items l.initial.best)
    × (l.steps + tried_along l.self-inside.index l.section_name (drop l.length-index l.length-items) ≤ l.initial.steps + tried_along l.self-inside.index l.section_name l.length-items)
