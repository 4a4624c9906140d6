use Rattle.std.proofs.Common.{◌≡◌, ℕ, List, ◌++◌, length, Some, None}
use Rattle.wild_part_maps.specs.Calls.{ChangesEntries}
use Rattle.wild_part_maps.specs.Parts.{entries, has_entry, kept, value_in}
use Rattle.wild_part_maps.proofs.output_section_part_map.change_entries.Given as goal

-- some first entries were called at, and no other part has changed
abbrev pub invariant-loop-part : goal.invariant-loop-part
invariant-loop-part g l = record {
  callable : goal.F-IsAlwaysCallable g l.cb;
  same_size : length l.map.dense ≡ length l.fn.map.dense;
  same_parts : (q : ℕ) → has_entry l.map q ≡ has_entry l.fn.map q;
  size : length l.answers.dense ≡ length l.fn.answers.dense;
  parts : (q : ℕ) → has_entry l.answers q ≡ has_entry l.fn.other q;
  calls : (done : List (ℕ × g.row.U.Denot)) × (done ++ l.left ≡ entries l.fn.other) × ((q : ℕ) → value_in done q ≡ None → kept l.map q ≡ kept l.fn.map q)
      × ChangesEntries (goal.F-step g) (λ q x. kept l.fn.map q ≡ Some x) l.map l.answers l.fn.cb done l.cb;
}

abbrev pub decreases-loop-part : goal.decreases-loop-part
decreases-loop-part g l = length l.left
