-- Maps of numbers that lead back.
use Rattle.std.specs.Prelude.{◌≡◌, ℕ, ◌<◌}

-- forth leads from n to a number below the limit, and back leads back
pub record Returns (limit : ℕ) (forth back : ℕ → ℕ) (n : ℕ) : Type 0 where
  pub stays : forth n < limit
  pub returns : back (forth n) ≡ n

-- it does so for each number below the limit
abbrev pub LeadsBack : ℕ → (ℕ → ℕ) → (ℕ → ℕ) → Type 0
LeadsBack limit forth back = (n : ℕ) → n < limit → Returns limit forth back n
