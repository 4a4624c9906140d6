use Rattle.std.proofs.Common.{◌≡◌, ◌++◌, drop}
use Rattle.wild_plan.specs.Facts.{alignments_in, shown_all}
use Rattle.wild_plan.proofs.facts.alignments_in.Given as goal

abbrev pub invariant-loop-section : goal.invariant-loop-section
invariant-loop-section l = l.alignments ++ alignments_in (shown_all (drop l.section-index l.facts)) ≡ alignments_in (shown_all l.facts)
