-- What is between the brackets of a class.
use Rattle.std.specs.Prelude.{ℕ, ◌==◌, if◌then◌else◌, List, [], ◌∷◌, Option, None}
use Rattle.std.specs.List.{position_from}
use Rattle.wild_glob.specs.Character.{close_bracket, dash}
use Rattle.wild_glob.specs.declared.piece.ClassItem.{ClassItem}
use Rattle.wild_glob.specs.declared.piece.ClassItem.TheVariants.{One, Range}

-- how many characters the items have with which a text begins: the index of the first `]` that is not in first place
abbrev pub items_len : List ℕ → Option ℕ
items_len [] = None
items_len (c ∷ cs) = position_from (λ b. b == close_bracket) 1 cs

-- a, `-` and b are the range from a to b; any other character stands for itself
abbrev pub class_items : List ℕ → List ClassItem
class_items [] = []
class_items (a ∷ []) = One a ∷ []
class_items (a ∷ m ∷ []) = One a ∷ One m ∷ []
class_items (a ∷ m ∷ b ∷ cs) = if m == dash then Range a b ∷ class_items cs else One a ∷ class_items (m ∷ b ∷ cs)
