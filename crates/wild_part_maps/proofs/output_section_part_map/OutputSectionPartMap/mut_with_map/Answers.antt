use Rattle.wild_part_maps.proofs.Reserved.{was_value}
use Rattle.wild_part_maps.proofs.Called.{changes_from}
use Rattle.wild_part_maps.proofs.output_section_part_map.OutputSectionPartMap.mut_with_map.Goals as goal

pub returns-clause-calls : goal.returns-clause-calls
returns-clause-calls g c =
    let calls = c.change_entries.ensures.calls in
    (calls.0, changes_from _ _ _ (λ q x now. was_value g.T.Default.is_default _ _ q x c.reserve_entries.ensures.adds now) _ _ _ _ _ calls.1)
