use Rattle.wild_walk_laws.proofs.Offsets.{symbols_stand_in_rows}
use Rattle.wild_walk_laws.proofs.laws.symbols_stand_in_rows.Goals as goal

pub returns : goal.returns
returns c = symbols_stand_in_rows
