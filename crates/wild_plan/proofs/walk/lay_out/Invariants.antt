use Rattle.wild_fates.specs.Shown.{shown_places}
use Rattle.wild_plan.specs.Ground.{shown_ground}
use Rattle.wild_plan.specs.Moves.{state_of}
use Rattle.wild_plan.specs.Taken.{ends_of}
use Rattle.wild_plan.proofs.Ended.{Ready}
use Rattle.wild_plan.proofs.walk.lay_out.Given as goal

abbrev pub invariant-loop-number : goal.invariant-loop-number
invariant-loop-number l = Ready (shown_ground l.ground) (shown_places l.places) l.number (state_of l.walk) (ends_of l.taken)
