use Rattle.std.proofs.Common.{◌≡◌, drop}
use Rattle.wild_plan_spec.specs.Places.{rest_chunk}
use Rattle.wild_fates.proofs.places.rest_chunk.Given as goal

abbrev pub invariant-loop-command : goal.invariant-loop-command
invariant-loop-command l = rest_chunk l.«section» (drop l.command-index l.commands) ≡ rest_chunk l.«section» l.commands
