use Rattle.std.proofs.Common.{rules, sym, ◌∙◌}
use Rattle.wild_glob.proofs.Walks.{comes_one}
use Rattle.wild_glob.proofs.matching.take_run.Goals as goal

pub loop-piece-preserved : goal.loop-piece-preserved
loop-piece-preserved c = (
  search rules,
  comes_one c.args.pieces.now c.args.text.now c.in-Some.piece.now c.loop-piece.left.now c.in-Some.behind.now c.loop-piece.rest.now c.in_ok-first.later.now c.in_ok-first.first
      c.loop-piece.invariant.1 c.in-Some.ensures.0 c.in-Some.ensures.1 c.in_ok-first.ensures.0 c.in_ok-first.ensures.1 (sym c.admits.ensures ∙ c.if-not-admits.false),
)
