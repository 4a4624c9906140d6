use Rattle.std.proofs.Common.{of_calls, ◌∙◌, rules, sym, ◌++◌, ◌∷◌}
use Rattle.std.specs.Prelude.{IsTrue}
use Rattle.wild_part_maps.specs.Changes.{Updates}
use Rattle.wild_part_maps.specs.Parts.{has_entry, RisesFrom}
use Rattle.wild_part_maps.proofs.Reserved.{updates_has}
use Rattle.wild_part_maps.proofs.Called.{changes_all, changes_more, lent_at, moved_on, next_has, not_done, still_same, with_next}
use Rattle.wild_part_maps.proofs.output_section_part_map.change_entries.Goals as goal

pub lent-requires : goal.lent-requires
lent-requires g c =
    let has : IsTrue (has_entry c.loop-part.map c.in-Some.part) = c.loop-part.invariant.same_parts _ ∙ c.requires.parts _ (next_has _ _ _ _ _ c.loop-part.invariant.calls.1 c.in-Some.ensures.steps) in
    search rules

pub put-requires : goal.put-requires
put-requires g c =
    let has : IsTrue (has_entry c.loop-part.answers c.in-Some.part) = c.loop-part.invariant.parts _ ∙ next_has _ _ _ _ _ c.loop-part.invariant.calls.1 c.in-Some.ensures.steps in
    search rules

pub loop-part-preserved : goal.loop-part-preserved
loop-part-preserved g c =
    let now = c.loop-part.invariant in
    let next = c.in-Some.ensures.steps in
    let calls = now.calls in
    let rising : RisesFrom 0 (calls.0 ++ (c.in-Some.part, c.in-Some.value.now) ∷ c.next.new.self) = rw (with_next _ _ _ _ _ calls.1 next, ← c.iter-left.ensures.value) c.iter-left.ensures.rising in
    let has : IsTrue (has_entry c.loop-part.map c.in-Some.part) = now.same_parts _ ∙ c.requires.parts _ (next_has _ _ _ _ _ calls.1 next) in
    let has_answer : IsTrue (has_entry c.loop-part.answers c.in-Some.part) = now.parts _ ∙ next_has _ _ _ _ _ calls.1 next in
    let lent = lent_at _ _ c.in-Some.part _ c.cb-answer.new.arg2 c.lent.ensures.value (search rules) in
    let puts : Updates c.loop-part.answers c.in-Some.part c.cb-answer.result c.put.new.self = search rules in
    record {
      callable = search of_calls;
      same_size = lent.0.size ∙ now.same_size;
      same_parts = λ q. updates_has _ _ _ _ lent.0 has q ∙ now.same_parts q;
      size = puts.size ∙ now.size;
      parts = λ q. updates_has _ _ _ _ puts has_answer q ∙ now.parts q;
      calls = (
        _,
        moved_on _ _ _ _ _ calls.1 next,
        still_same _ _ _ _ _ _ lent.0 calls.2,
        changes_more (goal.F-step g) _ _ _ _ _ calls.0 c.next.new.self (c.in-Some.part, c.in-Some.value.now) _ _ _ _ _ _ _ c.cb-answer.ensures lent.0 puts (sym (calls.2 _ (not_done 0 calls.0 c.next.new.self (c.in-Some.part, c.in-Some.value.now) rising)) ∙ lent.1) (search rules) 0 rising calls.3,
      );
    }

pub returns-clause-calls : goal.returns-clause-calls
returns-clause-calls g c =
    let calls = c.loop-part.invariant.calls in
    (c.loop-part.cb, changes_all (goal.F-step g) _ _ _ _ _ _ _ _ calls.1 c.in_default.ensures.steps.0 calls.3)
