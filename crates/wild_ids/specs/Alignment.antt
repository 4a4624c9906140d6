-- What alignments mean.
use Rattle.std.specs.Prelude.{◌≡◌, ◌≢◌, ℕ, ◌+◌, ◌-◌, ◌%◌, ◌^◌, ◌<◌, ◌≤◌, ◌==◌, Option, Result, Ok, Err}
use Rattle.std.specs.Int.{next_multiple_of}
use Rattle.std.specs.List.{find, range_with_len}
use Rattle.wild_ids.specs.declared.alignment.AlignmentFault.{AlignmentFault}
use Rattle.wild_ids.specs.declared.alignment.AlignmentFault.TheVariants.{NotPowerOfTwo, TooLarge}

-- the exponent of the largest alignment
abbrev pub max_exponent : ℕ
max_exponent = 21

-- how many alignments there are
abbrev pub alignment_count : ℕ
alignment_count = max_exponent + 1

-- the exponent of an alignment of so many bytes, if there is one
unfoldable pub exponent_of : ℕ → Option ℕ
exponent_of raw = find (λ e. raw == 2 ^ e) (range_with_len 0 alignment_count)

-- the value rounded up to a multiple of the size
abbrev pub rounded_up : ℕ → ℕ → ℕ
rounded_up size value = next_multiple_of value size

-- the value rounded down to a multiple of the size
abbrev pub rounded_down : ℕ → ℕ → ℕ
rounded_down size value = value - value % size

-- the offset rounded up, and moved on from there to what is congruent to the reference
abbrev pub moved_to : ℕ → ℕ → ℕ → ℕ
moved_to size reference offset = rounded_up size offset + reference % size

-- m is the least multiple of the size that is not below the bound
pub record IsLeastMultiple (size bound m : ℕ) : Type 0 where
  pub multiple : m % size ≡ 0
  pub reaches : bound ≤ m
  pub least : (n : ℕ) → n % size ≡ 0 → bound ≤ n → m ≤ n

-- m is the greatest multiple of the size that is not above the value
pub record IsGreatestMultiple (size value m : ℕ) : Type 0 where
  pub multiple : m % size ≡ 0
  pub within : m ≤ value
  pub greatest : (n : ℕ) → n % size ≡ 0 → n ≤ value → n ≤ m

-- m is the least number congruent to the reference that is not below the bound
pub record IsLeastCongruent (size reference bound m : ℕ) : Type 0 where
  pub congruent : m % size ≡ reference % size
  pub reaches : bound ≤ m
  pub least : (n : ℕ) → n % size ≡ reference % size → bound ≤ n → m ≤ n

-- what `new` answers for a number of bytes
abbrev pub NewAlignment : ℕ → Result ℕ AlignmentFault → Type 0
NewAlignment raw (Ok e) = (raw ≡ 2 ^ e) × (e ≤ max_exponent)
NewAlignment raw (Err NotPowerOfTwo) = (k : ℕ) → raw ≢ 2 ^ k
NewAlignment raw (Err TooLarge) = (k : ℕ) × (raw ≡ 2 ^ k) × (max_exponent < k)

-- what `from_exponent` answers
abbrev pub FromExponent : ℕ → Result ℕ AlignmentFault → Type 0
FromExponent exponent (Ok e) = (e ≡ exponent) × (e ≤ max_exponent)
FromExponent exponent (Err NotPowerOfTwo) = ⊥
FromExponent exponent (Err TooLarge) = max_exponent < exponent
