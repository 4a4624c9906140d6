use Rattle.wild_part_maps.proofs.Written.{with_value-updates, reserved_updates, reserved_has}
use Rattle.wild_part_maps.proofs.output_section_part_map.OutputSectionPartMap.take.Goals as goal

pub returns-clause-left : goal.returns-clause-left
returns-clause-left g c =
    let is_default = g.T.Default.is_default in
    let n = c.reserve_part.new.self in
    let reserved = c.in_ok-reserve_part.ensures.ok in
    let has = reserved_has is_default c.args.self.now n c.args.part reserved in (
      c.replace.new.dest,
      rw c.replace.ensures.after c.default.ensures,
      reserved_updates is_default c.args.self.now n _ c.args.part c.replace.new.dest reserved (with_value-updates n c.args.part c.replace.new.dest has),
    )
