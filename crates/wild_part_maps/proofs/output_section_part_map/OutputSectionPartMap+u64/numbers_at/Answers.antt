use Rattle.std.proofs.Common.{of_calls, rules}
use Rattle.wild_part_maps.proofs.Sums.{numbers_of}
use Rattle.wild_part_maps.proofs.output_section_part_map.OutputSectionPartMap+u64.numbers_at.Goals as goal

pub returns-clause-numbers : goal.returns-clause-numbers
returns-clause-numbers c = numbers_of _ c.args.self.now c.args.other.now _ c.map.result (λ q part shown v called. search (rules, of_calls)) c.map.ensures.parts c.map.ensures.calls
