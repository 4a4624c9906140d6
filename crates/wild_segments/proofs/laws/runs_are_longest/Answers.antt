use Rattle.wild_segments.proofs.Longest.{runs_longest}
use Rattle.wild_segments.proofs.laws.runs_are_longest.Goals as goal

pub returns : goal.returns
returns c = runs_longest
