use Rattle.wild_memo_laws.proofs.Stays.{memos_stay}
use Rattle.wild_memo_laws.proofs.laws.memos_stay.Goals as goal

pub returns : goal.returns
returns c = memos_stay
