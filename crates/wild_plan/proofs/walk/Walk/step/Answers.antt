use Rattle.wild_plan.proofs.Ended.{dot_taken}
use Rattle.wild_plan.proofs.walk.Walk.step.Goals as goal

pub have_effect-requires : goal.have_effect-requires
have_effect-requires c = dot_taken _ _ _ _ _ _ c.in_ok-note_dot.ensures c.requires
