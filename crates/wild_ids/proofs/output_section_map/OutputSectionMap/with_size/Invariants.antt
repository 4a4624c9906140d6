use Rattle.std.proofs.Common.{◌≡◌, ◌≤◌, length}
use Rattle.std.specs.Vec.{vec_capacity}
use Rattle.std.specs.List.{All}
use Rattle.wild_ids.proofs.output_section_map.OutputSectionMap.with_size.Given as goal

abbrev pub invariant-loop : goal.invariant-loop
invariant-loop g l = (length l.values.items ≡ l.counter) × (l.fn.len ≤ vec_capacity l.values) × All g.T.Default.is_default l.values.items
