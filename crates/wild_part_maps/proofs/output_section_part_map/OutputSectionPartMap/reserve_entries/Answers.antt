use Rattle.std.proofs.Common.{rules}
use Rattle.wild_part_maps.specs.Changes.{Reserves}
use Rattle.wild_part_maps.proofs.Reserved.{adds_more, reserve_step}
use Rattle.wild_part_maps.proofs.output_section_part_map.OutputSectionPartMap.reserve_entries.Goals as goal

pub loop-part-preserved : goal.loop-part-preserved
loop-part-preserved g c =
    let reserved : Reserves g.T.Default.is_default c.loop-part.self c.in-Some.part c.reserve_part.new.self = search rules in
    record {
      adds = adds_more g.T.Default.is_default _ _ _ _ c.loop-part.invariant.adds reserved;
      parts = reserve_step g.T.Default.is_default _ _ _ _ _ _ c.in-Some.ensures.steps c.loop-part.invariant.parts reserved;
    }
