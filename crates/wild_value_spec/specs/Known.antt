-- What is known of a layout: a finite map from what may be asked to numbers.
use Rattle.std.specs.Option.{unwrap_or}
use Rattle.std.specs.Prelude.{◌≡◌, ℕ, ◌==◌, Bool, false, Option, Some, None, if◌then◌else◌}

-- the start, the load address or the end of a section; the address of a row; the location counter at a place; and the start
-- of the section that a place opens, as its load address reads it
pub data Asked : Type 0 where
  Start : ℕ → Asked
  Load : ℕ → Asked
  End : ℕ → Asked
  Address : ℕ → Asked
  Dot : ℕ → Asked
  LoadDot : ℕ → Asked

-- the number of each, where it is known
abbrev pub Known : Type 0
Known = Asked → Option ℕ

-- nothing is known
abbrev pub nothing : Known
nothing x = None

-- the number that is known, or else 0
abbrev pub number_at : Known → Asked → ℕ
number_at known x = unwrap_or (known x) 0

-- one is a part of the other
abbrev pub IsPart : Known → Known → Type 0
IsPart some more = (x : Asked) (n : ℕ) → some x ≡ Some n → more x ≡ Some n

-- whether two ask for the same
abbrev pub same_asked : Asked → Asked → Bool
same_asked (Start a) (Start b) = a == b
same_asked (Load a) (Load b) = a == b
same_asked (End a) (End b) = a == b
same_asked (Address a) (Address b) = a == b
same_asked (Dot a) (Dot b) = a == b
same_asked (LoadDot a) (LoadDot b) = a == b
same_asked x y = false

-- what is there, or else the other
abbrev pub or_else : Option ℕ → Option ℕ → Option ℕ
or_else (Some n) o = Some n
or_else None o = o

-- one more number, where none is known yet
unfoldable pub with_number : Asked → ℕ → Known → Known
with_number x n known = λ y. or_else (known y) (if same_asked x y then Some n else None)
