use Rattle.std.proofs.Common.{◌≡◌, ◌++◌, [], drop}
use Rattle.wild_plan_spec.specs.Headers.{headers_in}
use Rattle.wild_fates.specs.Targets.{targets}
use Rattle.wild_fates.proofs.headers.push_section_headers.Given as goal

abbrev pub invariant-loop-command : goal.invariant-loop-command
invariant-loop-command l = targets l.all ++ headers_in l.held (drop l.command-index l.commands) ≡ targets l.fn.all ++ headers_in [] l.commands
