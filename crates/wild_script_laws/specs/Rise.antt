-- Limits of depth.
use Rattle.std.specs.Prelude.{ℕ, ◌≤◌}
use Rattle.wild_reading.specs.Position.{Bytes}
use Rattle.wild_script.specs.Tree.{tree_within}
use Rattle.wild_script.specs.declared.tree.LinkerScript.{LinkerScript}

-- a tree within a limit is one within each greater limit
abbrev pub ScriptsRise : Type 0
ScriptsRise = (b : Bytes) (limit m : ℕ) (t : LinkerScript) → limit ≤ m → tree_within limit b t → tree_within m b t
