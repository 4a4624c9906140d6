use Rattle.wild_reading.proofs.Gaps.{three_cases}
use Rattle.wild_reading.proofs.skipping.gaps_have_three_cases.Goals as goal

pub returns : goal.returns
returns c = three_cases
