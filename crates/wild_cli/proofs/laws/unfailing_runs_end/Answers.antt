use Rattle.wild_cli.proofs.Unfailing.{ends}
use Rattle.wild_cli.proofs.laws.unfailing_runs_end.Goals as goal

pub returns : goal.returns
returns c = ends
