use Rattle.wild_segments.proofs.Standing.{each_stands}
use Rattle.wild_segments.proofs.laws.each_stands_once.Goals as goal

pub returns : goal.returns
returns c = each_stands
