use Rattle.std.proofs.Common.{◌≡◌, ap}
use Rattle.std.specs.Prelude.{unwrap_or}
use Rattle.wild_part_maps.specs.Parts.{number_at}
use Rattle.wild_part_maps.proofs.Written.{with_value-updates}
use Rattle.wild_part_maps.proofs.output_section_part_map.OutputSectionPartMap+u64.decrement.Goals as goal

pub returns : goal.returns
returns c =
    let value : number_at c.args.self.now c.args.part ≡ c.lent.result.now = ap (λ o. unwrap_or o 0) c.lent.ensures.value in
    rw value (with_value-updates c.args.self.now c.args.part _ c.requires.entry)
