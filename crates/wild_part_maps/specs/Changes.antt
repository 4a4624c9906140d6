-- How a map from parts changes.
use Rattle.std.specs.Prelude.{◌≡◌, ℕ, ◌+◌, ◌<◌, ◌^◌, length, Some, IsTrue, MatchOption, slice_set, nat_lt, if◌then◌else◌}
use Rattle.std.specs.Option.{IfSome}
use Rattle.std.specs.Map.{set_value}
use Rattle.wild_part_maps.specs.Parts.{PartValues, kept, has_entry, is_part, number_at}

module _ {T : Type 0} where
  -- m with v in place of the value that it keeps for the part
  abbrev pub with_value : PartValues T → ℕ → T → PartValues T
  with_value m part v = if nat_lt part (length m.dense) then record { dense = slice_set m.dense part v; sparse = m.sparse } else record { dense = m.dense; sparse = set_value (is_part part) m.sparse v }

  -- n keeps v for the part, and for each other part what m keeps; as many parts are dense
  pub record Updates (m : PartValues T) (part : ℕ) (v : T) (n : PartValues T) : Type 0 where
    pub size : length n.dense ≡ length m.dense
    pub values : (q : ℕ) → kept n q ≡ (if is_part part q then Some v else kept m q)

  -- n is m, with a default kept for the part where m keeps nothing
  abbrev pub Reserves : (T → Type 0) → PartValues T → ℕ → PartValues T → Type 0
  Reserves is_default m part n = MatchOption (kept m part) ((v : T) × is_default v × Updates m part v n) (λ _. n ≡ m)

  -- n keeps what m keeps, and perhaps defaults for further parts; as many parts are dense
  pub record AddsDefaults (is_default : T → Type 0) (m n : PartValues T) : Type 0 where
    pub size : length n.dense ≡ length m.dense
    pub values : (q : ℕ) → MatchOption (kept m q) (IfSome (kept n q) is_default) (λ v. kept n q ≡ Some v)

-- n has at each part the sum of the numbers of m and r; as many parts are dense
pub record IsSum (m r n : PartValues ℕ) : Type 0 where
  pub size : length n.dense ≡ length m.dense
  pub numbers : (q : ℕ) → number_at n q ≡ number_at m q + number_at r q

-- at each part that has an entry in r the sum of both numbers is below 2 ^ 64
abbrev pub SumsFit : PartValues ℕ → PartValues ℕ → Type 0
SumsFit m r = (q : ℕ) → IsTrue (has_entry r q) → number_at m q + number_at r q < 2 ^ 64
