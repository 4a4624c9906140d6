use Rattle.wild_memo_laws.proofs.Nodes.{parts_have_fewer_nodes}
use Rattle.wild_memo_laws.proofs.laws.parts_have_fewer_nodes.Goals as goal

pub returns : goal.returns
returns c = parts_have_fewer_nodes
