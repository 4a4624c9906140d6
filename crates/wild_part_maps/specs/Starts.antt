-- Where ranges start that are laid one behind another, part by part.
use Rattle.std.specs.Prelude.{◌≡◌, ℕ, ◌+◌, ◌≤◌, length, Some, None, IsTrue, if◌then◌else◌}
use Rattle.wild_part_maps.specs.Parts.{PartValues, kept, has_entry, number_at}
use Rattle.wild_part_maps.specs.Changes.{IsSum}

-- ranges of these sizes start at the numbers of m, and leave n: each part of `sizes`, and no other, has as its start what m has there
pub record Starts (m sizes n starts : PartValues ℕ) : Type 0 where
  pub grown : IsSum m sizes n
  pub size : length starts.dense ≡ length sizes.dense
  pub old : (q : ℕ) → kept starts q ≡ (if has_entry sizes q then Some (number_at m q) else None)

-- no number of n is below that of m
abbrev pub IsAtLeast : PartValues ℕ → PartValues ℕ → Type 0
IsAtLeast m n = (q : ℕ) → number_at m q ≤ number_at n q

-- at each part that has both, the range of the first sizes ends where that of the second starts, or before
abbrev pub EndsBefore : (starts sizes later : PartValues ℕ) → Type 0
EndsBefore starts sizes later = (q : ℕ) → IsTrue (has_entry starts q) → IsTrue (has_entry later q) → number_at starts q + number_at sizes q ≤ number_at later q
