-- What holds of a finished layout.
use Rattle.std.specs.Prelude.{◌≡◌, ℕ, ◌+◌, ◌%◌, ◌^◌, ◌<◌, List, Some, slice_get}
use Rattle.wild_value_spec.specs.Known.{Known, Asked, Address}
use Rattle.wild_plan_spec.specs.declared.row.InputRow.{InputRow}
use Rattle.wild_plan_spec.specs.Chunks.{alignment_of}

-- its number is known
abbrev pub IsKnown : Known → Asked → Type 0
IsKnown known x = (n : ℕ) × (known x ≡ Some n)

-- it is a multiple of the row's alignment, and the row ends below 2 ^ 64
pub record IsPlaceOf (row : InputRow) (address : ℕ) : Type 0 where
  pub aligned : address % 2 ^ alignment_of row ≡ 0
  pub ends : address + row.size < 2 ^ 64

-- each row whose address is known has such a place
abbrev pub StandInPlace : List InputRow → Known → Type 0
StandInPlace rows known = (r : ℕ) (row : InputRow) (a : ℕ) → slice_get rows r ≡ Some row → known (Address r) ≡ Some a → IsPlaceOf row a
