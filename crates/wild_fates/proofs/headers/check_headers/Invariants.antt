use Rattle.std.proofs.Common.{◌≡◌, ◌++◌, drop, map}
use Rattle.wild_plan_spec.specs.Checks.{all_header_checks, failing}
use Rattle.wild_plan_spec.specs.Headers.{header_of}
use Rattle.wild_fates.proofs.headers.check_headers.Given as goal

abbrev pub invariant-loop-index : goal.invariant-loop-index
invariant-loop-index l =
    (l.headers ++ map header_of (drop l.index l.list.headers.now) ≡ map header_of l.list.headers.now)
    × (failing (all_header_checks l.list.place l.index (drop l.index l.list.headers.now)) ≡ failing (all_header_checks l.list.place 0 l.list.headers.now))
