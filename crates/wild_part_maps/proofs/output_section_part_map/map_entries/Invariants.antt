use Rattle.std.proofs.Common.{◌≡◌, ℕ, List, ◌++◌, length}
use Rattle.wild_part_maps.specs.Calls.{MapsEntries}
use Rattle.wild_part_maps.specs.Parts.{entries, has_entry}
use Rattle.wild_part_maps.proofs.output_section_part_map.map_entries.Given as goal

-- some first entries were called at
abbrev pub invariant-loop-part : goal.invariant-loop-part
invariant-loop-part g l = record {
  callable : goal.F-IsAlwaysCallable g l.cb;
  size : length l.answers.dense ≡ length l.fn.answers.dense;
  parts : (q : ℕ) → has_entry l.answers q ≡ has_entry l.fn.source q;
  calls : (done : List (ℕ × g.row.T.Denot)) × (done ++ l.left ≡ entries l.fn.source) × MapsEntries (goal.F-step g) l.answers l.fn.cb done l.cb;
}

abbrev pub decreases-loop-part : goal.decreases-loop-part
decreases-loop-part g l = length l.left
