-- The rows that are kept of each chunk.
use Rattle.std.specs.Prelude.{List, [], Option, Some, None}
use Rattle.std.specs.BTreeMap.{get}
use Rattle.wild_plan_spec.specs.declared.chunk.Chunk.{Chunk}
use Rattle.wild_plan_spec.specs.declared.chunk.ChunkRow.{ChunkRow}
use Rattle.wild_plan_spec.specs.Order.{chunk_cmp}
use Rattle.wild_plan.specs.declared.chunks.Chunks.{Chunks}

-- the rows of a list, or none where there is no list
abbrev pub items_or_none : {X : Type 0} → Option X → (X → List ChunkRow) → List ChunkRow
items_or_none None f = []
items_or_none (Some v) f = f v

-- the rows that are kept of a chunk
abbrev pub rows_at : Chunks → Chunk → List ChunkRow
rows_at c q = items_or_none (get chunk_cmp c.by_chunk q) (λ v. v.items)
