-- The values of a map from ids, each with its id.
use Rattle.std.specs.Prelude.{ℕ, ◌+◌, List, [], ◌∷◌}

-- the values with their numbers, from the first one on
abbrev pub numbered : {T : Type 0} → ℕ → List T → List (ℕ × T)
numbered first [] = []
numbered first (x ∷ xs) = (first, x) ∷ numbered (first + 1) xs
