use Rattle.std.proofs.Common.{of_calls, ◌∙◌, refl, rules}
use Rattle.std.specs.Prelude.{IsTrue}
use Rattle.wild_part_maps.specs.Changes.{Updates}
use Rattle.wild_part_maps.specs.Parts.{has_entry}
use Rattle.wild_part_maps.proofs.Reserved.{updates_has}
use Rattle.wild_part_maps.proofs.Called.{maps_more, moved_on, next_has, with_next}
use Rattle.wild_part_maps.proofs.output_section_part_map.map_entries.Goals as goal

pub put-requires : goal.put-requires
put-requires g c =
    let has : IsTrue (has_entry c.loop-part.answers c.in-Some.part) = c.loop-part.invariant.parts _ ∙ next_has _ _ _ _ _ c.loop-part.invariant.calls.1 c.in-Some.ensures.steps in
    search rules

pub loop-part-preserved : goal.loop-part-preserved
loop-part-preserved g c =
    let calls = c.loop-part.invariant.calls in
    let has : IsTrue (has_entry c.loop-part.answers c.in-Some.part) = c.loop-part.invariant.parts _ ∙ next_has _ _ _ _ _ calls.1 c.in-Some.ensures.steps in
    let puts : Updates c.loop-part.answers c.in-Some.part c.cb.result c.put.new.self = search rules in
    let called : goal.F-step g c.loop-part.cb c.in-Some.part c.in-Some.value c.cb.result c.cb.new.self = search (rules, of_calls) in
    record {
      callable = search of_calls;
      size = puts.size ∙ c.loop-part.invariant.size;
      parts = λ q. updates_has _ _ _ _ puts has q ∙ c.loop-part.invariant.parts q;
      calls = (
        _,
        moved_on _ _ _ _ _ calls.1 c.in-Some.ensures.steps,
        maps_more (goal.F-step g) _ _ 0 calls.0 c.next.new.self (c.in-Some.part, c.in-Some.value.now) _ _ _ _ _ (rw (with_next _ _ _ _ _ calls.1 c.in-Some.ensures.steps, ← c.iter-left.ensures.value) c.iter-left.ensures.rising) puts refl calls.2 called,
      );
    }
