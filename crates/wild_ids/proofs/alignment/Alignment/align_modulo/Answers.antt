use Rattle.wild_ids.proofs.Multiples.{is_moved}
use Rattle.wild_ids.proofs.alignment.Alignment.align_modulo.Goals as goal

pub returns-clause-least : goal.returns-clause-least
returns-clause-least c = is_moved c.args.self c.args.ref_offset c.args.offset _ (cc)
