use Rattle.std.proofs.Common.{◌∙◌, sym}
use Rattle.wild_plan.specs.Ground.{shown_ground}
use Rattle.wild_plan.specs.Moves.{state_of}
use Rattle.wild_plan.proofs.Ended.{overlapped_from}
use Rattle.wild_plan.proofs.walk.Walk.overlapped.Goals as goal

pub returns : goal.returns
returns c =
    overlapped_from (shown_ground c.args.ground.now) c.args.section (state_of c.args.self.now) c.start-start.result c.lowest_sharing.result
    (sym c.is_floating.ensures ∙ c.if-is_floating.false) c.start-start.ensures (c.lowest_sharing.ensures _ _ c.requires)
