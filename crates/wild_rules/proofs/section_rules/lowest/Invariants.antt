use Rattle.std.proofs.Common.{◌≡◌, ◌≤◌, ◌+◌, drop}
use Rattle.std.specs.Option.{option_copied}
use Rattle.wild_rules.specs.Index.{lowest, takes_at}
use Rattle.wild_rules.proofs.section_rules.lowest.Given as goal

abbrev pub invariant-loop-number : goal.invariant-loop-number
invariant-loop-number g l =
    (lowest (takes_at l.section_name (option_copied l.file_name) l.rules) (drop l.number-index l.numbers) l.best ≡ lowest (takes_at l.section_name (option_copied l.file_name) l.rules) l.numbers l.best)
    × (l.steps ≤ l.initial.steps + l.number-index)
