use Rattle.std.proofs.Common.{◌≡◌, not, drop}
use Rattle.std.specs.List.{list_any}
use Rattle.wild_plan_spec.specs.Checks.{is_matcher}
use Rattle.wild_fates.proofs.clauses.are_matchers.Given as goal

abbrev pub invariant-loop-command : goal.invariant-loop-command
invariant-loop-command l = list_any (λ c. not (is_matcher c)) (drop l.command-index l.commands) ≡ list_any (λ c. not (is_matcher c)) l.commands
