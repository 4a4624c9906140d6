-- The places of orphan sections, by their numbers.
use Rattle.std.specs.Prelude.{ℕ, zero, suc, ◌+◌, List, [], ◌∷◌, ◌++◌, None}
use Rattle.wild_plan_spec.specs.Places.{Place, Open, Rows, Close}

-- an orphan section, with one chunk
abbrev pub orphan_place : ℕ → List Place
orphan_place s = Open s None ∷ Rows (record { «section» = s; number = 0 }) ∷ Close s None ∷ []

-- so many, from this one on
abbrev pub orphans_from : ℕ → ℕ → List Place
orphans_from s zero = []
orphans_from s (suc n) = orphan_place s ++ orphans_from (s + 1) n
