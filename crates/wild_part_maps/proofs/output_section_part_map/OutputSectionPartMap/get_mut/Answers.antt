use Rattle.std.proofs.Common.{refl}
use Rattle.wild_part_maps.proofs.Written.{with_value-updates, reserved_updates, reserved_has, reserved_value}
use Rattle.wild_part_maps.proofs.output_section_part_map.OutputSectionPartMap.get_mut.Goals as goal

pub returns : goal.returns
returns g c =
    let is_default = g.T.Default.is_default in
    let m = c.args.self.now in
    let n = c.reserve_part.new.self in
    let reserved = c.in_ok-reserve_part.ensures.ok in
    let has = reserved_has is_default m n c.args.part reserved in (
      (refl, λ w _. reserved_updates is_default m n _ c.args.part w reserved (with_value-updates n c.args.part w has), tt),
      record { writes_back = tt; value = reserved_value is_default m n c.args.part c.lent.result.now reserved c.lent.ensures.value; succeeds = λ _. refl },
    )
