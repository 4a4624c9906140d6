use Rattle.std.proofs.Common.{◌≡◌, ◌++◌, length}
use Rattle.wild_glob.specs.Class.{class_items}
use Rattle.wild_glob.proofs.class.class_items.Given as goal

abbrev pub invariant-loop-item : goal.invariant-loop-item
invariant-loop-item l = l.items ++ class_items l.rest ≡ class_items l.content

abbrev pub decreases-loop-item : goal.decreases-loop-item
decreases-loop-item l = length l.rest
