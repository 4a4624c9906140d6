use Rattle.std.proofs.Common.{refl, rules}
use Rattle.wild_part_maps.proofs.Between.{filter-all}
use Rattle.wild_part_maps.proofs.Lists.{all_rise, count_fits}
use Rattle.wild_part_maps.proofs.Rising.{value_in_all}
use Rattle.wild_part_maps.proofs.output_section_part_map.OutputSectionPartMap.iter.Goals as goal

pub returns-clause-value : goal.returns-clause-value
returns-clause-value g c = rw (c.range.ensures.between tt, filter-all _ c.self.inside.sparse.entries (λ e. refl), ← c.self.view_is) (search rules)

pub returns-clause-rising : goal.returns-clause-rising
returns-clause-rising g c = rw (c.range.ensures.between tt, filter-all _ c.self.inside.sparse.entries (λ e. refl), c.deref.ensures.value) (all_rise _ _ c.self.invariant.1)

pub returns-clause-listed : goal.returns-clause-listed
returns-clause-listed g c = rw (c.range.ensures.between tt, filter-all _ c.self.inside.sparse.entries (λ e. refl), ← c.self.view_is, c.deref.ensures.value) (value_in_all c.self.inside.parts.items c.self.inside.sparse.entries)

pub returns-clause-fits : goal.returns-clause-fits
returns-clause-fits g c = rw c.deref.ensures.value (count_fits 0 c.self.inside.parts.items _ c.self.invariant.0 c.range.ensures.fits)
