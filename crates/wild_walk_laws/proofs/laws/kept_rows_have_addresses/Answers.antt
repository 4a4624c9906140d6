use Rattle.wild_walk_laws.proofs.Kept.{kept_rows_have_addresses}
use Rattle.wild_walk_laws.proofs.laws.kept_rows_have_addresses.Goals as goal

pub returns : goal.returns
returns c = kept_rows_have_addresses
