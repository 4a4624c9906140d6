use Rattle.std.proofs.Common.{◌≡◌, ◌+◌, ◌<◌, ◌^◌, arith, rules}
use Rattle.wild_part_maps.specs.Parts.{number_at, IsValueAt}
use Rattle.wild_part_maps.proofs.Sums.{all_listed, first_same, rises_rest, same_rest, value_number}
use Rattle.wild_part_maps.proofs.output_section_part_map.OutputSectionPartMap+u64.sums_fit.Goals as goal

pub loop-part-preserved : goal.loop-part-preserved
loop-part-preserved c =
    let now = c.loop-part.invariant in
    let next = c.in-Some.ensures.steps in
    let value : IsValueAt (λ x. x ≡ 0) c.args.self.now c.in-Some.part c.get.result = search rules in
    let small : c.get.result + c.in-Some.value.now < 2 ^ 64 = search rules in
    let fits : number_at c.args.self.now c.in-Some.part + number_at c.args.other.now c.in-Some.part < 2 ^ 64 = omega (arith, small, value_number c.args.self.now c.in-Some.part c.get.result value, first_same _ _ _ next c.args.other.now now.same) in
    record {
      rising = rises_rest _ _ _ next now.rising;
      same = same_rest _ _ _ next c.args.other.now now.rising now.same;
      fits = λ others. now.fits (all_listed _ _ _ next (λ q. number_at c.args.self.now q + number_at c.args.other.now q < 2 ^ 64) fits others);
    }
