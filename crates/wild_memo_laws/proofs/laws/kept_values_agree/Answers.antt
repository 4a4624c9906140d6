use Rattle.wild_memo_laws.proofs.Agreed.{agreed}
use Rattle.wild_memo_laws.proofs.laws.kept_values_agree.Goals as goal

pub returns : goal.returns
returns c = λ scope known statement levels indexed fits. agreed scope indexed known statement levels fits
