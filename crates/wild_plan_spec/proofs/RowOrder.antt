-- The order of the rows of a chunk.
use Rattle.std.proofs.Common.{◌≡◌, Bool, List}
use Rattle.std.specs.List.{filter}
use Rattle.std.specs.Cmp.{IsStrictWeakOrder, IsTotalOrder, nat_cmp_total, bool_cmp_total}
use Rattle.std.specs.Cmp.Lexicographic.{nat_list_cmp_total}
use Rattle.std.proofs.lemmas.Cmp.{on_total, then_total, back_total}
use Rattle.std.proofs.lemmas.List.Sorted.{ranks_by}
use Rattle.wild_plan_spec.specs.declared.chunk.Chunk.{Chunk}
use Rattle.wild_plan_spec.specs.declared.chunk.ChunkRow.{ChunkRow}
use Rattle.wild_plan_spec.specs.Order.{IsOrdered, chunk_cmp, row_cmp, stands_before}
use Rattle.wild_plan_spec.proofs.Ordered.{ordered_once, ordered_filter}

chunk_total : IsTotalOrder chunk_cmp
chunk_total = then_total (on_total (λ (q : Chunk). q.«section») nat_cmp_total) (on_total (λ (q : Chunk). q.number) nat_cmp_total)

row_total : IsTotalOrder row_cmp
row_total =
    then_total (on_total (λ (r : ChunkRow). r.alignment.0) (back_total nat_cmp_total))
    (then_total (on_total (λ (r : ChunkRow). r.sorted) bool_cmp_total)
    (then_total (on_total (λ (r : ChunkRow). r.name) nat_list_cmp_total)
    (then_total (on_total (λ (r : ChunkRow). r.row) nat_cmp_total)
    (then_total (on_total (λ (r : ChunkRow). r.size) nat_cmp_total) (on_total (λ (r : ChunkRow). r.chunk) chunk_total)))))

pub stands_weakly : IsStrictWeakOrder stands_before
stands_weakly = ranks_by row_total (λ (r : ChunkRow). r)

-- the rows of a chunk have one order
pub rows_once : (xs ys zs : List ChunkRow) → IsOrdered stands_before xs ys → IsOrdered stands_before xs zs → ys ≡ zs
rows_once xs ys zs f g = ordered_once stands_before stands_weakly xs ys zs f g

-- the rows that pass a test stand in the same order
pub rows_filtered : (p : ChunkRow → Bool) (xs ys : List ChunkRow) → IsOrdered stands_before xs ys → IsOrdered stands_before (filter p xs) (filter p ys)
rows_filtered p xs ys f = ordered_filter stands_before stands_weakly p xs ys f
