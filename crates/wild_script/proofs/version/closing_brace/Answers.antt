use Rattle.std.proofs.Common.{rules, sym}
use Rattle.wild_script.proofs.Braces.{open_start, open_more, open_less, open_same, open_ends}
use Rattle.wild_script.proofs.version.closing_brace.Goals.{then-begins+else-depth-eq0, else-begins+then-begins-2, else-begins+else-begins-2}
use Rattle.wild_script.proofs.version.closing_brace.Goals as goal

pub braces-init : goal.braces-init
braces-init c = open_start _ _ c.requires

pub braces-preserved : goal.braces-preserved
braces-preserved c = elim c.if-begins.branch [
  | then-begins+else-depth-eq0 w ↦ rw w.depth-is (open_less c.braces.invariant (search rules) (search rules) (search rules))
  | else-begins+then-begins-2 w ↦ rw w.depth-is (open_more c.braces.invariant (search rules) (search rules) (search rules))
  | else-begins+else-begins-2 w ↦ rw w.depth-is (open_same c.braces.invariant (search rules) (search rules) (search rules))
]

pub returns-clause-value : goal.returns-clause-value
returns-clause-value c = sym (open_ends c.braces.invariant (search rules))
