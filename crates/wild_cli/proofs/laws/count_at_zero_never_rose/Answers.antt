use Rattle.wild_cli.proofs.Unfailing.{still_at_zero}
use Rattle.wild_cli.proofs.laws.count_at_zero_never_rose.Goals as goal

pub returns : goal.returns
returns c = still_at_zero
