use Rattle.std.proofs.Common.{◌≡◌, drop}
use Rattle.wild_plan_spec.specs.Checks.{header_name_checks, failing}
use Rattle.wild_fates.proofs.headers.check_header_names.Given as goal

abbrev pub invariant-loop-name : goal.invariant-loop-name
invariant-loop-name l = failing (header_name_checks l.names (drop l.name-index l.named)) ≡ failing (header_name_checks l.names l.named)
