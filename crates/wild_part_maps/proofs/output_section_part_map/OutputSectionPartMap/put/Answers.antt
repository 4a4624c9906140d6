use Rattle.wild_part_maps.proofs.Written.{with_value-updates}
use Rattle.wild_part_maps.proofs.output_section_part_map.OutputSectionPartMap.put.Goals as goal

pub returns : goal.returns
returns g c = with_value-updates c.args.self.now c.args.part c.args.value c.requires
