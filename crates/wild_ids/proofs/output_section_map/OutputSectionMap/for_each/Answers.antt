use Rattle.wild_ids.proofs.output_section_map.OutputSectionMap.for_each.Goals as goal

pub returns : goal.returns
returns g c = rw (← c.self.view_is, ← c.deref.ensures.value) c.call_each.ensures
