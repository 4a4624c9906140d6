-- What a map from parts holds. Parts are seen as their numbers.
use Rattle.std.specs.Prelude.{◌≡◌, ℕ, ◌+◌, ◌≤◌, List, [], ◌∷◌, ◌++◌, length, Option, MatchOption, Bool, is_some, unwrap_or, slice_get, nat_lt, ⊤, if◌then◌else◌}
use Rattle.std.specs.Ordering.{nat_cmp}
use Rattle.std.specs.Map.{lookup}
use Rattle.std.specs.BTreeMap.{is_at}
use Rattle.std.specs.BTreeMap.Range.{entries_between, range_contains}
use Rattle.std.specs.declared.ops.Bound.TheVariants.{Included, Excluded}
use Rattle.wild_ids.specs.Entries.{numbered}

-- the values of the first parts, and further parts with their values
pub record PartValues (T : Type 0) : Type 0 where
  pub dense : List T
  pub sparse : List (ℕ × T)

-- whether two parts are the same
abbrev pub is_part : ℕ → ℕ → Bool
is_part part = is_at (nat_cmp part)

-- whether a part lies in the range from start on and before end
abbrev pub is_between : ℕ → ℕ → ℕ → Bool
is_between start end = range_contains nat_cmp (Included start) (Excluded end)

module _ {T : Type 0} where
  -- the listed parts rise, from the limit on
  abbrev pub RisesFrom : ℕ → List (ℕ × T) → Type 0
  RisesFrom limit [] = ⊤
  RisesFrom limit (e ∷ es) = (limit ≤ e.0) × RisesFrom (e.0 + 1) es

  -- the value that a list has for a part
  abbrev pub value_in : List (ℕ × T) → ℕ → Option T
  value_in es part = lookup (is_part part) es

  -- all parts that are kept, with their values: the dense ones, then the sparse ones
  abbrev pub entries : PartValues T → List (ℕ × T)
  entries m = numbered 0 m.dense ++ m.sparse

  -- the value that is kept for a part
  abbrev pub kept : PartValues T → ℕ → Option T
  kept m part = if nat_lt part (length m.dense) then slice_get m.dense part else value_in m.sparse part

  -- whether a value is kept for a part
  abbrev pub has_entry : PartValues T → ℕ → Bool
  has_entry m part = is_some (kept m part)

  -- v is the value of a part: the one that is kept, or else a default
  abbrev pub IsValueAt : (T → Type 0) → PartValues T → ℕ → T → Type 0
  IsValueAt is_default m part v = MatchOption (kept m part) (is_default v) (λ x. v ≡ x)

  -- the entries that lie in a range
  abbrev pub entries_in : PartValues T → ℕ → ℕ → List (ℕ × T)
  entries_in m start end = entries_between nat_cmp (Included start) (Excluded end) (entries m)

-- the number at a part, where a missing one counts as 0
abbrev pub number_at : PartValues ℕ → ℕ → ℕ
number_at m part = unwrap_or (kept m part) 0
