-- The rows of each chunk, in their order, are the rows of the table that go to that chunk.
use Rattle.std.proofs.Common.{◌≡◌, ◌∙◌, ℕ, zero, suc, ◌+◌, ◌==◌, true, List, [], ◌∷◌, Option, Some, None, refl, sym, ap, subst, inl, inr, arith}
use Rattle.std.specs.Prelude.{slice_get, get_or}
use Rattle.std.specs.List.{All, filter}
use Rattle.std.specs.List.Sorted.{ties}
use Rattle.std.proofs.lemmas.Bool.{and_parts, and_from, eqb-true, eq-eqb}
use Rattle.std.proofs.lemmas.Option.{slice_get-get_or}
use Rattle.wild_plan_spec.specs.declared.chunk.Chunk.{Chunk}
use Rattle.wild_plan_spec.specs.declared.chunk.ChunkRow.{ChunkRow}
use Rattle.wild_plan_spec.specs.declared.chunk.Kept.{Kept}
use Rattle.wild_plan_spec.specs.declared.row.InputRow.{InputRow}
use Rattle.wild_plan_spec.specs.Chunks.{alignment_of, sort_name, same_chunk, is_of, kept_rows, rows_in}
use Rattle.wild_plan_spec.specs.Order.{IsOrdered, stands_before}
use Rattle.wild_plan_spec.proofs.Ordered.{ties_itself}
use Rattle.wild_plan_spec.proofs.RowOrder.{stands_weakly}
use Rattle.wild_walk_laws.proofs.Having.{Has, IsAmong, has_at, has_there, has_weaker, has_filter, has_passed}

-- ---- what is in a list is in the ordered one

same_has : (xs ys : List ChunkRow) → ((c : ChunkRow) → filter (ties stands_before c) xs ≡ filter (ties stands_before c) ys) → (P : ChunkRow → Type 0) → Has P xs → Has P ys
same_has xs ys same P h =
    let found = has_there P xs h in
    let c = found.1 in
    let tied = has_filter (λ d. d ≡ c) (ties stands_before c) xs (λ d e. subst (λ (w : ChunkRow). ties stands_before c w ≡ true) (sym e) (ties_itself stands_before stands_weakly c)) (has_at (λ d. d ≡ c) xs found.0 c found.2 refl) in
    has_weaker _ P (λ d both. subst P (sym both.0) found.3) ys (has_passed (λ d. d ≡ c) (ties stands_before c) ys (subst (IsAmong c) (same c) tied))

pub ordered_has : (xs ys : List ChunkRow) → IsOrdered stands_before xs ys → (P : ChunkRow → Type 0) → Has P xs → Has P ys
ordered_has xs ys f P h = same_has xs ys (λ c. sym (f.stable c)) P h

-- ---- rows that are kept

-- row n, which is kept there
abbrev pub chunk_row : ℕ → InputRow → Kept → ChunkRow
chunk_row n row k = record { alignment = record { 0 = alignment_of row }; sorted = k.sorted; name = sort_name k.sorted row; row = n; size = row.size; chunk = k.chunk }

same_itself : (q : Chunk) → same_chunk q q ≡ true
same_itself q = and_from _ _ (eq-eqb q.«section» q.«section» refl) (eq-eqb q.number q.number refl)

chunk_is : (q c : Chunk) → same_chunk c q ≡ true → c ≡ q
chunk_is q c e =
    let both = and_parts (c.«section» == q.«section») (c.number == q.number) e in
    ap (λ (s : ℕ). record c { «section» = s }) (eqb-true c.«section» q.«section» both.0) ∙ ap (λ (n : ℕ). record q { number = n }) (eqb-true c.number q.number both.1)

module _ (P : ChunkRow → Type 0) where
  -- row i of the lists, of which the first has the number n
  record HasRow (n : ℕ) (rows : List InputRow) (fates : List (Option Kept)) : Type 0 where
    index : ℕ
    row : InputRow
    kept : Kept
    there : slice_get rows index ≡ Some row
    fate : slice_get fates index ≡ Some (Some kept)
    holds : P (chunk_row (n + index) row kept)

  next_row : (n : ℕ) (row : InputRow) (rows : List InputRow) (k : Option Kept) (fates : List (Option Kept)) → HasRow (n + 1) rows fates → HasRow n (row ∷ rows) (k ∷ fates)
  next_row n row rows k fates h =
      let z : n + 1 + h.index ≡ n + suc h.index = omega arith in
      record { index = suc h.index; row = h.row; kept = h.kept; there = h.there; fate = h.fate; holds = subst (λ i. P (chunk_row i h.row h.kept)) z h.holds }

  row_of : (n : ℕ) (rows : List InputRow) (fates : List (Option Kept)) → Has P (kept_rows n rows fates) → HasRow n rows fates
  row_of n [] fates h = absurd h
  row_of n (row ∷ rows) [] h = absurd h
  row_of n (row ∷ rows) (None ∷ fates) h = next_row n row rows None fates (row_of (n + 1) rows fates h)
  row_of n (row ∷ rows) (Some k ∷ fates) (inl h) =
      let z : n ≡ n + 0 = omega arith in
      record { index = 0; row = row; kept = k; there = refl; fate = refl; holds = subst (λ i. P (chunk_row i row k)) z h }
  row_of n (row ∷ rows) (Some k ∷ fates) (inr h) = next_row n row rows (Some k) fates (row_of (n + 1) rows fates h)

  row_kept : (n : ℕ) (rows : List InputRow) (fates : List (Option Kept)) (i : ℕ) (row : InputRow) (k : Kept) → slice_get rows i ≡ Some row → slice_get fates i ≡ Some (Some k) → P (chunk_row (n + i) row k) → Has P (kept_rows n rows fates)
  row_kept n [] fates i row k e f h = absurd (cc)
  row_kept n (first ∷ rows) [] i row k e f h = absurd (cc)
  row_kept n (first ∷ rows) (None ∷ fates) zero row k e f h = absurd (cc)
  row_kept n (first ∷ rows) (Some kept ∷ fates) zero row k e f h =
      let z : n + 0 ≡ n = omega arith in
      let same : chunk_row (n + 0) row k ≡ chunk_row n first kept = cc in
      inl (subst P same h)
  row_kept n (first ∷ rows) (None ∷ fates) (suc i) row k e f h =
      let z : n + suc i ≡ n + 1 + i = omega arith in
      row_kept (n + 1) rows fates i row k e f (subst (λ j. P (chunk_row j row k)) z h)
  row_kept n (first ∷ rows) (Some kept ∷ fates) (suc i) row k e f h =
      let z : n + suc i ≡ n + 1 + i = omega arith in
      inr (row_kept (n + 1) rows fates i row k e f (subst (λ j. P (chunk_row j row k)) z h))

-- ---- rows of chunks

module _ (rows : List InputRow) (fates : List (Option Kept)) where
  -- it stands for the row of the table that has its number, which goes to its chunk
  pub record IsRow (c : ChunkRow) : Type 0 where
    pub row : InputRow
    pub there : slice_get rows c.row ≡ Some row
    pub alignment : c.alignment.0 ≡ alignment_of row
    pub size : c.size ≡ row.size
    pub kept : Kept
    pub fate : slice_get fates c.row ≡ Some (Some kept)
    pub chunk : c.chunk ≡ kept.chunk

  row_is : (c : ChunkRow) → HasRow (λ d. d ≡ c) 0 rows fates → IsRow c
  row_is c h =
      let z : 0 + h.index ≡ h.index = omega arith in
      subst IsRow h.holds (record {
        row = h.row;
        there = ap (slice_get rows) z ∙ h.there;
        alignment = refl;
        size = refl;
        kept = h.kept;
        fate = ap (slice_get fates) z ∙ h.fate;
        chunk = refl;
      })

  -- a row of a chunk
  abbrev pub IsRowOf : Chunk → ChunkRow → Type 0
  IsRowOf q c = IsRow c × (c.chunk ≡ q)

  module _ (q : Chunk) (cs : List ChunkRow) (f : IsOrdered stands_before (rows_in q rows fates) cs) where
    among_rows : (c : ChunkRow) → IsAmong c cs → IsRowOf q c
    among_rows c h =
        let listed = same_has cs (rows_in q rows fates) f.stable (λ d. d ≡ c) h in
        let passed = has_passed (λ d. d ≡ c) (is_of q) (kept_rows 0 rows fates) listed in
        let one = has_there (λ d. (d ≡ c) × (is_of q d ≡ true)) (kept_rows 0 rows fates) passed in (
          row_is c (row_of (λ d. d ≡ c) 0 rows fates (has_weaker _ (λ d. d ≡ c) (λ d both. both.0) (kept_rows 0 rows fates) passed)),
          chunk_is q c.chunk (subst (λ (d : ChunkRow). is_of q d ≡ true) one.3.0 one.3.1),
        )

    -- each of them is one
    pub chunk_rows : All (IsRowOf q) cs
    chunk_rows = λ i d low. let c = get_or cs i d in among_rows c (has_at (λ e. e ≡ c) cs i c (slice_get-get_or cs i d low) refl)

    -- each that is kept there is one of them
    pub kept_among : (r : ℕ) (row : InputRow) (k : Kept) → slice_get rows r ≡ Some row → slice_get fates r ≡ Some (Some k) → k.chunk ≡ q → Has (λ c. c.row ≡ r) cs
    kept_among r row k there fate own =
        let z : 0 + r ≡ r = omega arith in
        ordered_has (rows_in q rows fates) cs f (λ c. c.row ≡ r) (has_weaker (λ (c : ChunkRow). (c.row ≡ r) × (c.chunk ≡ q)) (λ (c : ChunkRow). c.row ≡ r) (λ c both. both.0) (rows_in q rows fates)
        (has_filter (λ (c : ChunkRow). (c.row ≡ r) × (c.chunk ≡ q)) (is_of q) (kept_rows 0 rows fates) (λ c both. subst (λ (p : Chunk). same_chunk p q ≡ true) (sym both.1) (same_itself q))
        (row_kept (λ (c : ChunkRow). (c.row ≡ r) × (c.chunk ≡ q)) 0 rows fates r row k there fate (z, own))))
