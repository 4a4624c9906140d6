use Rattle.std.proofs.Common.{sym, ◌∙◌, ap, drop}
use Rattle.std.proofs.lemmas.List.{take_rest}
use Rattle.wild_glob.proofs.Pieces.{pieces_step}
use Rattle.wild_glob.proofs.spelling.pieces.Goals as goal

pub loop-rest-preserved : goal.loop-rest-preserved
loop-rest-preserved c =
    let first = c.in_ok-first.first in
    let step = pieces_step c.loop-rest.pieces c.loop-rest.rest.now first c.in_ok-first.ensures.reads.ok in
    let behind = c.split_at.ensures.back ∙ ap (drop first.behind) (take_rest c.loop-rest.rest.now 1) in
    rw (behind, c.in_ok-push.ensures.ok) (sym step ∙ c.loop-rest.invariant)
