use Rattle.std.proofs.Common.{◌≡◌, ℕ, length}
use Rattle.std.specs.Prelude.{is_some, ◌||◌}
use Rattle.wild_part_maps.specs.Parts.{has_entry, value_in}
use Rattle.wild_part_maps.specs.Changes.{AddsDefaults}
use Rattle.wild_part_maps.proofs.output_section_part_map.OutputSectionPartMap.reserve_entries.Given as goal

abbrev pub invariant-loop-part : goal.invariant-loop-part
invariant-loop-part g l = record {
  adds : AddsDefaults g.T.Default.is_default l.fn.self l.self;
  parts : (q : ℕ) → (has_entry l.self q || is_some (value_in l.left q)) ≡ (has_entry l.fn.self q || has_entry l.fn.other q);
}

abbrev pub decreases-loop-part : goal.decreases-loop-part
decreases-loop-part g l = length l.left
