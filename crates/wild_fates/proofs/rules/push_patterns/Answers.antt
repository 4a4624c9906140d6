use Rattle.std.proofs.Common.{◌≡◌, ◌+◌, ◌++◌, drop, arith}
use Rattle.std.proofs.lemmas.Grind.{common_steps}
use Rattle.wild_plan_spec.specs.Checks.{pattern_check, pattern_checks, failing}
use Rattle.wild_fates.proofs.Failing.{wanted_here, exits}
use Rattle.wild_fates.proofs.rules.push_patterns.Goals as goal

pub returns-in_err-pattern_rule-clause-passes : goal.returns-in_err-pattern_rule-clause-passes
returns-in_err-pattern_rule-clause-passes c =
    let here = pattern_check c.args.statement c.args.matcher.now.input_file_pattern c.pattern-item.result in
    let all = pattern_checks c.args.statement c.args.matcher.now.input_file_pattern in
    let rest = all (drop (c.loop-pattern.pattern-index + 1) c.args.matcher.now.input_section_name_patterns) in
    let same : failing (here ++ rest) ≡ failing (all c.args.matcher.now.input_section_name_patterns) = grind (arith, common_steps) in
    exits _ _ c.from_residual.ensures.1 (wanted_here here rest (all c.args.matcher.now.input_section_name_patterns) _ same c.in_err-pattern_rule.ensures.passes.err)
