use Rattle.std.proofs.Common.{of_calls, length-append, arith}
use Rattle.wild_ids.proofs.Mapped.{maps_more}
use Rattle.wild_ids.proofs.output_section_map.map_each.Goals as goal

pub loop-value-preserved : goal.loop-value-preserved
loop-value-preserved g c = (
  search of_calls,
  grind (arith),
  rw c.push_reserved.ensures.items (simp length-append (omega arith)),
  rw c.push_reserved.ensures.items (maps_more _ _ _ _ _ _ _ _ c.loop-value.invariant.3 c.cb.ensures),
)
