use Rattle.wild_part_maps.proofs.Rising.{rises_same}
use Rattle.wild_part_maps.proofs.output_section_part_map.OutputSectionPartMap.lent.Goals as goal

pub invariant_of-self-lent-2 : goal.invariant_of-self-lent-2
invariant_of-self-lent-2 g c w = (c.self.invariant.0, rises_same _ _ _ (c.get_mut.follows.holds w).1 c.self.invariant.1)
