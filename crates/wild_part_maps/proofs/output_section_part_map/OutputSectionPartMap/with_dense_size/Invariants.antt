use Rattle.std.proofs.Common.{◌≡◌, ◌≤◌, length}
use Rattle.std.specs.Vec.{vec_capacity}
use Rattle.std.specs.List.{All}
use Rattle.wild_part_maps.proofs.output_section_part_map.OutputSectionPartMap.with_dense_size.Given as goal

abbrev pub invariant-loop : goal.invariant-loop
invariant-loop g l = (length l.parts.items ≡ l.counter) × (l.fn.size ≤ vec_capacity l.parts) × All g.T.Default.is_default l.parts.items
