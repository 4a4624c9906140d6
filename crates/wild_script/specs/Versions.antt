-- The version script of a script.
use Rattle.std.specs.Prelude.{ℕ, List, [], ◌∷◌, Option, Some, None}
use Rattle.std.specs.Option.{option_or}
use Rattle.wild_script_tree.specs.declared.tree.Command.{Command, out-Command}
use Rattle.wild_script_tree.specs.declared.tree.Command.TheOpen.{Command-F}

-- what is in a VERSION, of one level
abbrev version_layer : Command-F Command → Option (List ℕ)
version_layer (Command-F.Version content) = Some content
version_layer other = None

-- what is in a VERSION
abbrev pub version_content : Command → Option (List ℕ)
version_content command = version_layer (out-Command command)

-- what is in the first VERSION, if there is one
unfoldable pub first_version : List Command → Option (List ℕ)
first_version [] = None
first_version (command ∷ commands) = option_or (version_content command) (first_version commands)
