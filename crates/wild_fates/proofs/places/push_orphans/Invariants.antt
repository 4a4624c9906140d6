use Rattle.std.proofs.Common.{◌≡◌, ◌++◌, ◌-◌}
use Rattle.wild_fates.specs.Orphaned.{orphans_from}
use Rattle.wild_fates.specs.Shown.{shown_places}
use Rattle.wild_fates.proofs.places.push_orphans.Given as goal

abbrev pub invariant-loop-section : goal.invariant-loop-section
invariant-loop-section l = shown_places l.places ++ orphans_from l.«section» (l.count - l.«section») ≡ shown_places l.fn.places ++ orphans_from l.first (l.count - l.first)
