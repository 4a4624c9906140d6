use Rattle.std.proofs.Common.{◌∙◌}
use Rattle.std.proofs.lemmas.Nat.{one_shl}
use Rattle.wild_ids.proofs.Multiples.{no_power}
use Rattle.wild_ids.proofs.alignment.Alignment.of_bytes.Goals as goal

pub returns-then-exponent-raw : goal.returns-then-exponent-raw
returns-then-exponent-raw c =
    no_power c.args.raw c.ilog2-exponent.result c.ilog2-exponent.ensures.power_le c.ilog2-exponent.ensures.next_power_gt (λ q. c.if-exponent-raw.true (one_shl c.ilog2-exponent.result 64 c.ilog2-exponent.ensures.bound ∙ q))
