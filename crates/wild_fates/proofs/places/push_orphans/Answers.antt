use Rattle.std.proofs.Common.{◌∙◌}
use Rattle.wild_fates.specs.Shown.{shown_places}
use Rattle.wild_fates.proofs.Orphaned.{one_more}
use Rattle.wild_fates.proofs.places.push_orphans.Goals as goal

pub loop-section-preserved : goal.loop-section-preserved
loop-section-preserved c =
    one_more c.loop-section.«section» c.args.count (shown_places c.loop-section.places) (shown_places c.push_orphan.new.places) c.loop-section-test.true c.in_ok-push_orphan.ensures ∙ c.loop-section.invariant
