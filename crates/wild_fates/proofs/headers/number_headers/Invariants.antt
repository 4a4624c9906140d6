use Rattle.std.proofs.Common.{◌≡◌, ◌++◌, [], drop}
use Rattle.wild_names.specs.declared.fault.Fault.TheVariants.{DuplicateName}
use Rattle.wild_plan_spec.specs.Checks.{name_checks, failing}
use Rattle.wild_plan_spec.specs.Headers.{names_of_headers}
use Rattle.wild_fates.proofs.headers.number_headers.Given as goal

abbrev pub invariant-loop-header : goal.invariant-loop-header
invariant-loop-header l =
    (l.names ++ names_of_headers (drop l.header-index l.headers) ≡ names_of_headers l.headers)
    × (failing (name_checks DuplicateName l.names (names_of_headers (drop l.header-index l.headers))) ≡ failing (name_checks DuplicateName [] (names_of_headers l.headers)))
