use Rattle.std.proofs.Common.{◌≡◌, ◌++◌, drop}
use Rattle.wild_plan_spec.specs.Headers.{section_headers}
use Rattle.wild_fates.specs.Targets.{targets}
use Rattle.wild_fates.proofs.headers.find_section_headers.Given as goal

abbrev pub invariant-loop-command : goal.invariant-loop-command
invariant-loop-command l = targets l.all ++ section_headers (drop l.command-index l.commands) ≡ section_headers l.commands
