use Rattle.std.proofs.Common.{◌≡◌, ◌≤◌, None, rules, arith, ap, length}
use Rattle.wild_part_maps.specs.Parts.{PartValues, kept}
use Rattle.wild_part_maps.proofs.Rising.{rises_insert}
use Rattle.wild_part_maps.proofs.Written.{updates_sparse, none_beyond}
use Rattle.wild_part_maps.proofs.output_section_part_map.OutputSectionPartMap.reserve_part.Goals as goal

pub returns-clause-ok : goal.returns-clause-ok
returns-clause-ok g c =
    let none : kept c.args.self.now c.args.part ≡ None = search rules in
    rw none (
      c.default.result,
      c.default.ensures,
      rw (← c.self.view_is) (updates_sparse _ c.args.part c.default.result c.insert.new.self.entries (omega (arith, ap (λ (m : PartValues _). length m.dense) c.self.view_is, none_beyond c.args.self.now c.args.part none)) c.in_ok-insert.ensures.updates.0),
    )

pub invariant_of-self-2 : goal.invariant_of-self-2
invariant_of-self-2 g c =
    let none : kept c.args.self.now c.args.part ≡ None = search rules in
    let beyond : length c.self.inside.parts.items ≤ c.args.part = omega (arith, ap (λ (m : PartValues _). length m.dense) c.self.view_is, none_beyond c.args.self.now c.args.part none) in
    (c.self.invariant.0, rw c.in_ok-insert.ensures.entries (rises_insert _ _ _ _ beyond c.self.invariant.1))
