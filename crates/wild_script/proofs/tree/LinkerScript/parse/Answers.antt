use Rattle.wild_script.proofs.Trees.{one_tree, no_tree}
use Rattle.wild_script.proofs.tree.LinkerScript.parse.Goals as goal

pub returns-in-Ok-clause-found : goal.returns-in-Ok-clause-found
returns-in-Ok-clause-found c = one_tree c.new-cursor.ensures.text c.new-cursor.ensures.at c.new-cursor.ensures.left c.in-Ok.ensures.ok

pub returns-in-Err-clause-refused : goal.returns-in-Err-clause-refused
returns-in-Err-clause-refused c = rw c.from.ensures (no_tree c.new-cursor.ensures.text c.new-cursor.ensures.at c.new-cursor.ensures.left c.in-Err.ensures.err)
