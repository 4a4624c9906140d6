-- The order of the rows of a chunk.
use Rattle.std.specs.Prelude.{Bool, List}
use Rattle.std.specs.Ordering.{is_lt, nat_cmp, bool_cmp, ordering_then}
use Rattle.std.specs.declared.cmp.Ordering.{Ordering}
use Rattle.std.specs.Cmp.Lexicographic.{slice_cmp}
use Rattle.std.specs.List.Sorted.{IsSortedBy, IsStableBy}
use Rattle.wild_plan_spec.specs.declared.chunk.Chunk.{Chunk}
use Rattle.wild_plan_spec.specs.declared.chunk.ChunkRow.{ChunkRow}

-- ys has the elements of xs, none before a lesser one, and those that the test doesn't tell apart as in xs
pub record IsOrdered {X : Type 0} (lt : X → X → Bool) (xs ys : List X) : Type 0 where
  pub sorted : IsSortedBy lt ys
  pub stable : IsStableBy lt xs ys

-- by section, then by number
abbrev pub chunk_cmp : Chunk → Chunk → Ordering
chunk_cmp a b = ordering_then (nat_cmp a.«section» b.«section») (nat_cmp a.number b.number)

-- by falling alignment, unsorted before sorted, sorted ones by the bytes of their names, then in table order; the rest never
-- decides, since no two rows have one number
abbrev pub row_cmp : ChunkRow → ChunkRow → Ordering
row_cmp a b =
    ordering_then (nat_cmp b.alignment.0 a.alignment.0)
    (ordering_then (bool_cmp a.sorted b.sorted)
    (ordering_then (slice_cmp nat_cmp a.name b.name)
    (ordering_then (nat_cmp a.row b.row)
    (ordering_then (nat_cmp a.size b.size) (chunk_cmp a.chunk b.chunk)))))

-- the one row stands before the other
abbrev pub stands_before : ChunkRow → ChunkRow → Bool
stands_before a b = is_lt (row_cmp a b)
