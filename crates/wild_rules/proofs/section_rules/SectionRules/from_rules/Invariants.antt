use Rattle.std.proofs.Common.{◌≡◌, ◌++◌, [], ℕ, List, take, drop}
use Rattle.wild_rules.specs.Index.{all_measured, has_literal, is_short, numbers, numbers_at}
use Rattle.wild_rules.proofs.section_rules.SectionRules.from_rules.Given as goal

abbrev pub invariant-loop-number : goal.invariant-loop-number
invariant-loop-number l =
    (l.copies ≡ take l.number l.rules)
    × ((q : List ℕ) → numbers_at l.index q ++ numbers (has_literal q) l.number (drop l.number l.rules) ≡ numbers (has_literal q) 0 l.rules)
    × (all_measured (drop l.number l.rules) l.index.lengths ≡ all_measured l.rules [])
    × (l.index.short ++ numbers is_short l.number (drop l.number l.rules) ≡ numbers is_short 0 l.rules)
