use Rattle.std.proofs.Common.{◌≡◌, ℕ, ◌+◌, length}
use Rattle.std.specs.Prelude.{IsTrue, is_some, unwrap_or}
use Rattle.wild_part_maps.specs.Parts.{has_entry, number_at, value_in, RisesFrom}
use Rattle.wild_part_maps.proofs.output_section_part_map.add_entries.Given as goal

abbrev pub invariant-loop-part : goal.invariant-loop-part
invariant-loop-part l = record {
  rising : RisesFrom 0 l.left;
  listed : (q : ℕ) → IsTrue (is_some (value_in l.left q)) → IsTrue (has_entry l.fn.sizes q);
  numbers : (q : ℕ) → number_at l.map q + unwrap_or (value_in l.left q) 0 ≡ number_at l.fn.map q + number_at l.fn.sizes q;
  size : length l.map.dense ≡ length l.fn.map.dense;
  parts : (q : ℕ) → has_entry l.map q ≡ has_entry l.fn.map q;
}

abbrev pub decreases-loop-part : goal.decreases-loop-part
decreases-loop-part l = length l.left
