use Rattle.std.proofs.Common.{◌+◌, ◌<◌, ◌^◌, ◌∙◌, rules}
use Rattle.std.specs.Prelude.{IsTrue}
use Rattle.wild_part_maps.specs.Changes.{Updates}
use Rattle.wild_part_maps.specs.Parts.{has_entry, number_at}
use Rattle.wild_part_maps.proofs.Reserved.{updates_has}
use Rattle.wild_part_maps.proofs.Sums.{first_has, listed_rest, rises_rest, next_fits, add_step}
use Rattle.wild_part_maps.proofs.output_section_part_map.add_entries.Goals as goal

pub increment-requires-clause-entry : goal.increment-requires-clause-entry
increment-requires-clause-entry c =
    let now = c.loop-part.invariant in
    let next = c.in-Some.ensures.steps in
    let has : IsTrue (has_entry c.loop-part.map c.in-Some.part) = now.parts _ ∙ c.requires.parts _ (now.listed _ (first_has _ _ _ next)) in
    search rules

pub increment-requires-clause-fits : goal.increment-requires-clause-fits
increment-requires-clause-fits c =
    let now = c.loop-part.invariant in
    let next = c.in-Some.ensures.steps in
    let fits : number_at c.loop-part.map c.in-Some.part + c.in-Some.value.now < 2 ^ 64 = next_fits _ _ _ next c.loop-part.map c.loop-part.map (λ q. number_at c.args.map.now q + number_at c.args.sizes.now q) now.numbers (2 ^ 64) (c.requires.fits _ (now.listed _ (first_has _ _ _ next))) in
    search rules

pub loop-part-preserved : goal.loop-part-preserved
loop-part-preserved c =
    let now = c.loop-part.invariant in
    let next = c.in-Some.ensures.steps in
    let updates : Updates c.loop-part.map c.in-Some.part (number_at c.loop-part.map c.in-Some.part + c.in-Some.value.now) c.increment.new.self = search rules in
    let has : IsTrue (has_entry c.loop-part.map c.in-Some.part) = now.parts _ ∙ c.requires.parts _ (now.listed _ (first_has _ _ _ next)) in
    record {
      rising = rises_rest _ _ _ next now.rising;
      listed = λ q some. now.listed q (listed_rest _ _ _ next q some);
      numbers = add_step _ _ _ next c.loop-part.map c.increment.new.self (λ q. number_at c.args.map.now q + number_at c.args.sizes.now q) now.numbers now.rising updates;
      size = updates.size ∙ now.size;
      parts = λ q. updates_has _ _ _ _ updates has q ∙ now.parts q;
    }
