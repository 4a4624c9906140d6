-- Which section the lowest that shares an address is, where these float and share none.
use Rattle.std.specs.Prelude.{◌≡◌, ℕ, ◌<◌, ◌≤◌, ◌↔◌, Bool, true, false, Some, None}
use Rattle.wild_value_spec.specs.Known.{Known, Start, number_at}
use Rattle.wild_plan_spec.specs.Overlaps.{shares, lowest_sharing}

-- no section with a number below n shares an address with those from start up to end
abbrev pub NoneShares : (ℕ → Bool) → Known → ℕ → ℕ → ℕ → Type 0
NoneShares floating known start end n = (u : ℕ) → u < n → shares floating known start end u ≡ false

-- of the sections with numbers below n that share one, section s is the first of those that start lowest
pub record IsLowest (floating : ℕ → Bool) (known : Known) (start end n s : ℕ) : Type 0 where
  pub below : s < n
  pub shared : shares floating known start end s ≡ true
  pub lowest : (u : ℕ) → u < n → shares floating known start end u ≡ true → number_at known (Start s) ≤ number_at known (Start u)
  pub first : (u : ℕ) → u < s → shares floating known start end u ≡ true → number_at known (Start s) < number_at known (Start u)

-- `lowest_sharing` is that section, and none where none shares an address
pub record SharingIsLowest (floating : ℕ → Bool) (known : Known) (start end n : ℕ) : Type 0 where
  pub some : (s : ℕ) → (lowest_sharing floating known start end n ≡ Some s) ↔ IsLowest floating known start end n s
  pub none : (lowest_sharing floating known start end n ≡ None) ↔ NoneShares floating known start end n
