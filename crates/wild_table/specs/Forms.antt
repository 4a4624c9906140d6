-- The forms of records.
use Rattle.std.specs.Prelude.{◌&&◌, ◌==◌, Bool, ℕ, List, [], ◌∷◌, length, Option, Some, None, if◌then◌else◌, codes}
use Rattle.std.specs.Str.{bytes_eq}
use Rattle.wild_table.specs.Flags.{flags_of}
use Rattle.wild_table.specs.Number.{number}
use Rattle.wild_table.specs.declared.records.Record.{Record}
use Rattle.wild_table.specs.declared.records.Record.TheVariants.{OfRow, OfSymbol}

infixl 10 ◌>>=◌
-- what comes of a value, if there is one
abbrev pub ◌>>=◌ : {A B : Type 0} → Option A → (A → Option B) → Option B
None >>= f = None
(Some x) >>= f = f x

-- the row of a file, a section, a size, an alignment and flags
abbrev pub section_record : List ℕ → List ℕ → List ℕ → List ℕ → List ℕ → Option Record
section_record file name size alignment flags = do
  s ← number size
  a ← number alignment
  f ← flags_of flags
  Some (OfRow (record { file = file; «section» = name; size = s; alignment = a; flags = f }))

-- the symbol of a name, the number of its row and its offset in that row
abbrev pub symbol_record : List ℕ → List ℕ → List ℕ → Option Record
symbol_record name row offset = do
  r ← number row
  o ← number offset
  Some (OfSymbol (record { name = name; row = r; offset = o }))

-- both are empty
abbrev pub no_fields : List ℕ → List ℕ → Bool
no_fields a b = (length a == 0) && (length b == 0)

-- what a record of this kind writes: a row, or a symbol, whose last two fields are empty
abbrev pub record_of_kind : List ℕ → List ℕ → List ℕ → List ℕ → List ℕ → List ℕ → Option Record
record_of_kind kind a b c d e =
    if bytes_eq kind (codes "section") then section_record a b c d e
    else (if bytes_eq kind (codes "symbol") then (if no_fields d e then symbol_record a b c else None) else None)

-- what the fields of a record write, if it has six
abbrev pub record_of : List (List ℕ) → Option Record
record_of [] = None
record_of (kind ∷ []) = None
record_of (kind ∷ a ∷ []) = None
record_of (kind ∷ a ∷ b ∷ []) = None
record_of (kind ∷ a ∷ b ∷ c ∷ []) = None
record_of (kind ∷ a ∷ b ∷ c ∷ d ∷ []) = None
record_of (kind ∷ a ∷ b ∷ c ∷ d ∷ e ∷ []) = record_of_kind kind a b c d e
record_of (kind ∷ a ∷ b ∷ c ∷ d ∷ e ∷ more ∷ fields) = None
