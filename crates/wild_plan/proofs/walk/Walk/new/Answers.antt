use Rattle.std.proofs.Common.{refl}
use Rattle.wild_plan.proofs.walk.Walk.new.Goals as goal

pub returns : goal.returns
returns c = rw (c.in_ok-regions.ensures, c.new.ensures, c.new-2.ensures) refl
