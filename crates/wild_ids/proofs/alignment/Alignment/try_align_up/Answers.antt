use Rattle.std.proofs.Common.{rules, ◌^◌}
use Rattle.std.proofs.lemmas.Nat.{pow_pos}
use Rattle.wild_ids.proofs.Multiples.{none_fits}
use Rattle.wild_ids.proofs.alignment.Alignment.try_align_up.Goals as goal

pub returns-clause-least : goal.returns-clause-least
returns-clause-least c = none_fits (2 ^ c.args.self) c.args.value (2 ^ 64) _ (pow_pos c.args.self) (search rules)
