use Rattle.wild_plan.proofs.Ended.{chunk_taken}
use Rattle.wild_plan.proofs.walk.Walk.end_section_after.Goals as goal

pub end_section_inside-requires : goal.end_section_inside-requires
end_section_inside-requires c = chunk_taken _ _ _ _ _ _ c.in_ok-place_chunk.ensures c.requires
