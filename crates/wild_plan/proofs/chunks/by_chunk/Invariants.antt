use Rattle.std.proofs.Common.{◌≡◌, ◌++◌, length}
use Rattle.std.specs.List.{filter}
use Rattle.std.specs.Vec.Iter.{into_iter_items, into_iter_len}
use Rattle.wild_plan_spec.specs.declared.chunk.Chunk.{Chunk}
use Rattle.wild_plan_spec.specs.Chunks.{is_of}
use Rattle.wild_plan.specs.Chunks.{rows_at}
use Rattle.wild_plan.proofs.chunks.by_chunk.Given as goal

abbrev pub invariant-loop-row : goal.invariant-loop-row
invariant-loop-row l =
    ((q : Chunk) → rows_at l.chunks q ++ filter (is_of q) (into_iter_items l.row-iterator) ≡ filter (is_of q) (into_iter_items l.initial.row-iterator))
    × (into_iter_len l.row-iterator ≡ length (into_iter_items l.row-iterator))
