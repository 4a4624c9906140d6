use Rattle.wild_glob.proofs.Grammars.{spelled, spells}
use Rattle.wild_glob.proofs.laws.pieces_are_spelled.Goals as goal

pub returns : goal.returns
returns c = λ text ps. (spelled ps text, spells ps text)
