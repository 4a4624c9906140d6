-- The rows of chunks and of sections. Each row stands beside its fate: where it goes, or None where it is discarded.
use Rattle.std.specs.Prelude.{ℕ, ◌+◌, ◌==◌, ◌&&◌, Bool, false, List, [], ◌∷◌, Option, Some, None, if◌then◌else◌, max}
use Rattle.std.specs.Option.{unwrap_or}
use Rattle.std.specs.List.{cons_option, filter}
use Rattle.wild_ids.specs.Alignment.{exponent_of}
use Rattle.wild_plan_spec.specs.declared.chunk.Chunk.{Chunk}
use Rattle.wild_plan_spec.specs.declared.chunk.ChunkRow.{ChunkRow}
use Rattle.wild_plan_spec.specs.declared.chunk.Kept.{Kept}
use Rattle.wild_plan_spec.specs.declared.row.InputRow.{InputRow}
use Rattle.wild_plan_spec.specs.Names.{Name}

-- of one section, and with one number
abbrev pub same_chunk : Chunk → Chunk → Bool
same_chunk a b = (a.«section» == b.«section») && (a.number == b.number)

-- the alignment of a row, as an exponent; a row whose alignment is none is refused before
abbrev pub alignment_of : InputRow → ℕ
alignment_of row = unwrap_or (exponent_of row.alignment) 0

-- ---- chunks

-- the name of a row that is sorted
abbrev pub sort_name : Bool → InputRow → Name
sort_name sorted row = if sorted then row.«section» else []

-- a row of this number, where it is kept
abbrev pub kept_row : ℕ → InputRow → Option Kept → Option ChunkRow
kept_row n row None = None
kept_row n row (Some k) = Some (record { alignment = record { 0 = alignment_of row }; sorted = k.sorted; name = sort_name k.sorted row; row = n; size = row.size; chunk = k.chunk })

-- the rows that are kept, in table order; the first row of the list has the number n
abbrev pub kept_rows : ℕ → List InputRow → List (Option Kept) → List ChunkRow
kept_rows n [] fates = []
kept_rows n (row ∷ rows) [] = []
kept_rows n (row ∷ rows) (fate ∷ fates) = cons_option (kept_row n row fate) (kept_rows (n + 1) rows fates)

-- the row is in the chunk
abbrev pub is_of : Chunk → ChunkRow → Bool
is_of q row = same_chunk row.chunk q

-- the rows whose chunk is q, in table order
abbrev pub rows_in : Chunk → List InputRow → List (Option Kept) → List ChunkRow
rows_in q rows fates = filter (is_of q) (kept_rows 0 rows fates)

-- the largest alignment of the rows, or 0: exponents
abbrev pub largest : List ChunkRow → ℕ
largest [] = 0
largest (r ∷ rs) = max r.alignment.0 (largest rs)

-- ---- sections

-- a row with this fate is in section s
abbrev pub is_in : ℕ → Option Kept → Bool
is_in s None = false
is_in s (Some k) = k.chunk.«section» == s

-- the rows whose section is s, in table order
abbrev pub section_rows : ℕ → List InputRow → List (Option Kept) → List InputRow
section_rows s [] fates = []
section_rows s (row ∷ rows) [] = []
section_rows s (row ∷ rows) (fate ∷ fates) = if is_in s fate then row ∷ section_rows s rows fates else section_rows s rows fates

-- the largest alignment of the rows, or 0: exponents
abbrev pub largest_alignment : List InputRow → ℕ
largest_alignment [] = 0
largest_alignment (row ∷ rows) = max (alignment_of row) (largest_alignment rows)
