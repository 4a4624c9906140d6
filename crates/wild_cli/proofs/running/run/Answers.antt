use Rattle.wild_cli.proofs.Statuses.{outcome}
use Rattle.wild_cli.proofs.running.run.Goals as goal

pub returns : goal.returns
returns g c = outcome _ _ _ _ _ _ c.perform.ensures
