-- The words of a command line.
use Rattle.std.specs.Prelude.{◌≡◌, Bool, ℕ, List, [], ◌∷◌, Option, Some, None, Result, Ok, Err, if◌then◌else◌, codes, ⊤}
use Rattle.std.specs.Option.{option_map}
use Rattle.std.specs.Str.{bytes_eq}
use Rattle.wild_words.specs.declared.words.Request.{Request}
use Rattle.wild_words.specs.declared.words.Request.TheVariants.{Plan}
use Rattle.wild_words.specs.declared.words.WordsFault.{WordsFault}
use Rattle.wild_words.specs.declared.words.WordsFault.TheVariants.{Usage, NoMemory}
use Rattle.wild_words.specs.Options.{options_of}

-- the word is `plan`
abbrev pub is_plan : List ℕ → Bool
is_plan word = bytes_eq word (codes "plan")

-- `plan`, a script, a table, and options
abbrev pub command : List (List ℕ) → Option Request
command [] = None
command (word ∷ []) = None
command (word ∷ script ∷ []) = None
command (word ∷ script ∷ table ∷ words) = if is_plan word then option_map (λ options. Plan script table options) (options_of words) else None

-- the command is read, and refused exactly where there is none, unless memory ran out
abbrev pub Reads : Option Request → Result Request WordsFault → Type 0
Reads wanted (Ok request) = wanted ≡ Some request
Reads wanted (Err Usage) = wanted ≡ None
Reads wanted (Err NoMemory) = ⊤
