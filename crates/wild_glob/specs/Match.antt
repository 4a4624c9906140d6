-- The texts that pieces match.
use Rattle.std.specs.Prelude.{ℕ, Bool, true, false, not, ◌&&◌, ◌||◌, ◌==◌, nat_le, if◌then◌else◌, List, [], ◌∷◌, slice_get, Option, Some, None}
use Rattle.std.specs.List.{list_any}
use Rattle.wild_glob.specs.declared.piece.ClassItem.{ClassItem}
use Rattle.wild_glob.specs.declared.piece.ClassItem.TheVariants.{One, Range}
use Rattle.wild_glob.specs.declared.piece.Piece.{Piece}
use Rattle.wild_glob.specs.declared.piece.Piece.TheVariants.{AnyRun, AnyCharacter, Class, Literal}

-- whether an item contains a character
abbrev pub contains : ClassItem → ℕ → Bool
contains (One a) c = c == a
contains (Range a b) c = nat_le a c && nat_le c b

-- whether the items list a character
abbrev pub lists : List ClassItem → ℕ → Bool
lists items c = list_any (λ item. contains item c) items

-- whether a piece is `*`
abbrev pub is_any_run : Piece → Bool
is_any_run AnyRun = true
is_any_run AnyCharacter = false
is_any_run (Class negated items) = false
is_any_run (Literal a) = false

-- whether a piece takes one character, and takes this one
abbrev pub admits : Piece → ℕ → Bool
admits AnyRun c = false
admits AnyCharacter c = true
admits (Class negated items) c = if negated then not (lists items c) else lists items c
admits (Literal a) c = c == a

-- whether a test passes at some suffix of a text, itself and the empty one included
abbrev pub some_suffix : (List ℕ → Bool) → List ℕ → Bool
some_suffix test [] = test []
some_suffix test (c ∷ cs) = test (c ∷ cs) || some_suffix test cs

-- one character that the piece admits, and then the rest
abbrev pub one_then : Piece → (List ℕ → Bool) → List ℕ → Bool
one_then p rest [] = false
one_then p rest (c ∷ cs) = admits p c && rest cs

-- whether pieces match a text: no piece matches the empty one; a `*` matches where the pieces after it match some
-- suffix, and any other piece takes one character
abbrev pub matches : List Piece → List ℕ → Bool
matches [] [] = true
matches [] (c ∷ cs) = false
matches (AnyRun ∷ ps) cs = some_suffix (matches ps) cs
matches (AnyCharacter ∷ ps) cs = one_then AnyCharacter (matches ps) cs
matches (Class negated items ∷ ps) cs = one_then (Class negated items) (matches ps) cs
matches (Literal a ∷ ps) cs = one_then (Literal a) (matches ps) cs

-- the character that a piece stands for, where it stands for one alone
abbrev pub character_of : Piece → Option ℕ
character_of AnyRun = None
character_of AnyCharacter = None
character_of (Class negated items) = None
character_of (Literal a) = Some a

-- the same of a piece that may be missing
abbrev pub character_of_any : Option Piece → Option ℕ
character_of_any None = None
character_of_any (Some p) = character_of p

-- the same of the piece at this place, if there is one
abbrev pub character_at : List Piece → ℕ → Option ℕ
character_at ps place = character_of_any (slice_get ps place)
