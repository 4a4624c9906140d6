-- The places of a script with those of its orphans.
use Rattle.std.specs.Prelude.{ℕ, ◌+◌, List, [], ◌∷◌, ◌++◌, length, None}
use Rattle.wild_script_tree.specs.declared.tree.Command.{Command}
use Rattle.wild_plan_spec.specs.declared.row.InputTable.{InputTable}
use Rattle.wild_plan_spec.specs.Fates.{orphans_of}
use Rattle.wild_plan_spec.specs.Names.{Name}
use Rattle.wild_plan_spec.specs.Places.{Place, Open, Rows, Close, script_places}
use Rattle.wild_plan_spec.specs.Statements.{sections_of}

-- orphan sections, each with one chunk; the first has the number s
abbrev pub orphan_places : ℕ → List Name → List Place
orphan_places s [] = []
orphan_places s (x ∷ xs) = Open s None ∷ Rows (record { «section» = s; number = 0 }) ∷ Close s None ∷ orphan_places (s + 1) xs

-- those of the script, and after them those of the orphans
abbrev pub places_of : List Command → InputTable → List Place
places_of t inputs = script_places t ++ orphan_places (length (sections_of t)) (orphans_of t inputs)
