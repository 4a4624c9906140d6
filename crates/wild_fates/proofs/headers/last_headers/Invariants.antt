use Rattle.std.proofs.Common.{◌≡◌, [], drop}
use Rattle.wild_plan_spec.specs.Headers.{header_lists}
use Rattle.wild_fates.specs.Shown.{shown_places}
use Rattle.wild_fates.proofs.headers.last_headers.Given as goal

abbrev pub invariant-loop-place : goal.invariant-loop-place
invariant-loop-place l = header_lists l.place (shown_places (drop l.place l.places)) ≡ []
