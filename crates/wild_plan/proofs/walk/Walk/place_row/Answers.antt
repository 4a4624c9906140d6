use Rattle.wild_plan_spec.specs.Steps.{row_placed}
use Rattle.wild_plan.proofs.walk.Walk.place_row.Goals as goal

pub returns : goal.returns
unfolding row_placed
returns c = rw (c.in_ok-size.ensures, c.in_ok-next.ensures, c.in_ok-learn_address.ensures)
