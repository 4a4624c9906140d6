use Rattle.std.proofs.Common.{◌≡◌, ◌++◌, drop}
use Rattle.wild_plan_spec.specs.Checks.{pattern_checks, failing}
use Rattle.wild_fates.specs.Numbered.{numbered_patterns}
use Rattle.wild_fates.proofs.rules.push_patterns.Given as goal

abbrev pub invariant-loop-pattern : goal.invariant-loop-pattern
invariant-loop-pattern l =
    (l.rules ++ numbered_patterns l.id l.matcher.must_keep l.matcher.input_file_pattern (drop l.pattern-index l.matcher.input_section_name_patterns) ≡ l.fn.rules ++ numbered_patterns l.id l.matcher.must_keep l.matcher.input_file_pattern l.matcher.input_section_name_patterns)
    × (failing (pattern_checks l.statement l.matcher.input_file_pattern (drop l.pattern-index l.matcher.input_section_name_patterns)) ≡ failing (pattern_checks l.statement l.matcher.input_file_pattern l.matcher.input_section_name_patterns))
