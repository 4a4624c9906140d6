use Rattle.std.proofs.Common.{◌≡◌, ◌∙◌, length, sym, ap}
use Rattle.wild_part_maps.proofs.Lists.{count_fits, few_between, value_between, between_rise, between_listed}
use Rattle.wild_part_maps.proofs.output_section_part_map.OutputSectionPartMap.in_range.Goals as goal

pub returns-clause-value : goal.returns-clause-value
returns-clause-value g c =
    let long : c.len-len.result ≡ length c.self.inside.parts.items = c.len-len.ensures ∙ sym c.deref.ensures.len ∙ ap length c.deref.ensures.value in
    rw (c.range.ensures.between tt, ← c.self.view_is, c.deref.ensures.value, c.min-first.ensures, c.min-last.ensures, c.as_usize.ensures, c.as_usize-2.ensures, long) (value_between (record { dense = c.self.inside.parts.items; sparse = c.self.inside.sparse.entries }) c.args.range.start c.args.range.end)

pub returns-clause-rising : goal.returns-clause-rising
returns-clause-rising g c =
    let long : c.len-len.result ≡ length c.self.inside.parts.items = c.len-len.ensures ∙ sym c.deref.ensures.len ∙ ap length c.deref.ensures.value in
    rw (c.range.ensures.between tt, c.deref.ensures.value, c.min-first.ensures, c.min-last.ensures, c.as_usize.ensures, c.as_usize-2.ensures, long, value_between (record { dense = c.self.inside.parts.items; sparse = c.self.inside.sparse.entries }) c.args.range.start c.args.range.end) (between_rise (record { dense = c.self.inside.parts.items; sparse = c.self.inside.sparse.entries }) c.args.range.start c.args.range.end c.self.invariant.1)

pub returns-clause-listed : goal.returns-clause-listed
returns-clause-listed g c =
    let long : c.len-len.result ≡ length c.self.inside.parts.items = c.len-len.ensures ∙ sym c.deref.ensures.len ∙ ap length c.deref.ensures.value in
    rw (c.range.ensures.between tt, ← c.self.view_is, c.deref.ensures.value, c.min-first.ensures, c.min-last.ensures, c.as_usize.ensures, c.as_usize-2.ensures, long, value_between (record { dense = c.self.inside.parts.items; sparse = c.self.inside.sparse.entries }) c.args.range.start c.args.range.end) (between_listed (record { dense = c.self.inside.parts.items; sparse = c.self.inside.sparse.entries }) c.args.range.start c.args.range.end)

pub returns-clause-fits : goal.returns-clause-fits
returns-clause-fits g c = rw c.deref.ensures.value (count_fits _ _ _ (few_between c.min-first.result c.min-last.result c.self.inside.parts.items c.self.invariant.0) c.range.ensures.fits)
