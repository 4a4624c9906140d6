use Rattle.wild_segments.proofs.Sharing.{segments_share}
use Rattle.wild_segments.proofs.laws.segments_share_regions.Goals as goal

pub returns : goal.returns
returns c = segments_share
