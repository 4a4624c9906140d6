use Rattle.wild_ids.proofs.Multiples.{is_rounded_down}
use Rattle.wild_ids.proofs.alignment.Alignment.align_down.Goals as goal

pub returns-clause-greatest : goal.returns-clause-greatest
returns-clause-greatest c = is_rounded_down c.args.self c.args.value _ (cc)
