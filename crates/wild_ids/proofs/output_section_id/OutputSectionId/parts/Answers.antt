use Rattle.std.proofs.Common.{◌+◌, ◌-◌, ◌<◌, arith}
use Rattle.std.proofs.lemmas.Grind.{common_steps}
use Rattle.std.proofs.lemmas.Bool.Decides.{nat_tests}
use Rattle.wild_ids.proofs.Numbers.{numbers-at}
use Rattle.wild_ids.proofs.output_section_id.OutputSectionId.parts.Goals as goal

pub returns-clause-falling : goal.returns-clause-falling
returns-clause-falling g c regular k h =
    let long : k < c.as_u32-2.result - c.as_u32.result = grind (arith, common_steps, nat_tests) in
    rw (numbers-at c.as_u32.result (c.as_u32-2.result - c.as_u32.result) k long) (grind (arith, common_steps, nat_tests))

pub returns-clause-back : goal.returns-clause-back
returns-clause-back g c k h =
    rw (numbers-at c.as_u32.result (c.as_u32-2.result - c.as_u32.result) k (omega arith))
    (c.part_id_range-range.ensures.back (c.as_u32.result + k) (omega arith) (omega arith))
