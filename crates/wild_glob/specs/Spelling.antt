-- The pieces that a text spells.
use Rattle.std.specs.Prelude.{◌≡◌, ℕ, zero, suc, ◌+◌, Bool, true, false, ◌==◌, if◌then◌else◌, List, [], ◌∷◌, take, Option, Some, None, Result, IfOk, IfErr, ◌⊎◌}
use Rattle.wild_glob.specs.Character.{star, question_mark, open_bracket, exclamation_mark, backslash}
use Rattle.wild_glob.specs.Class.{items_len, class_items}
use Rattle.wild_glob.specs.declared.piece.First.{First}
use Rattle.wild_glob.specs.declared.piece.Piece.{Piece}
use Rattle.wild_glob.specs.declared.piece.Piece.TheVariants.{AnyRun, AnyCharacter, Class, Literal}
use Rattle.wild_glob.specs.declared.fault.PatternFault.{PatternFault}
use Rattle.wild_glob.specs.declared.fault.PatternFault.TheVariants.{Shape, NoMemory}

-- this piece, with so many characters after its first one
abbrev pub first_of : Piece → ℕ → Option First
first_of piece n = Some (record { piece = piece; behind = n })

-- `*`, where no other one is after it
abbrev pub any_run : List ℕ → Option First
any_run [] = first_of AnyRun 0
any_run (c ∷ cs) = if c == star then None else first_of AnyRun 0

-- a class with so many characters before its items, of so many characters
abbrev pub class_of : Bool → ℕ → List ℕ → Option ℕ → Option First
class_of negated before cs None = None
class_of negated before cs (Some n) = first_of (Class negated (class_items (take n cs))) (before + n + 1)

-- what is after a `[`: items and `]`, or, where it begins with `!`, this `!`, items and `]`
abbrev pub class : List ℕ → Option First
class [] = None
class (c ∷ cs) = if c == exclamation_mark then class_of true 1 cs (items_len cs) else class_of false 0 (c ∷ cs) (items_len (c ∷ cs))

-- a backslash and a character
abbrev pub escaped : List ℕ → Option First
escaped [] = None
escaped (c ∷ cs) = first_of (Literal c) 1

-- the first piece of a text: `*`, `?`, a class, an escaped character, or any other character
abbrev pub first_piece : List ℕ → Option First
first_piece [] = None
first_piece (c ∷ cs) =
    if c == star then any_run cs
    else if c == question_mark then first_of AnyCharacter 0
    else if c == open_bracket then class cs
    else if c == backslash then escaped cs
    else first_of (Literal c) 0

-- the piece before the others, if they have a reading
abbrev pub put_first : Piece → Option (List Piece) → Option (List Piece)
put_first p None = None
put_first p (Some ps) = Some (p ∷ ps)

-- a first piece and the pieces after it
abbrev pub first_then : Option First → (ℕ → Option (List Piece)) → Option (List Piece)
first_then None rest = None
first_then (Some f) rest = put_first f.piece (rest f.behind)

-- the pieces of a text after its first n characters: the first piece there, and the pieces after that one
abbrev pub pieces_behind : ℕ → List ℕ → Option (List Piece)
pieces_behind n [] = Some []
pieces_behind zero (c ∷ cs) = first_then (first_piece (c ∷ cs)) (λ n. pieces_behind n cs)
pieces_behind (suc n) (c ∷ cs) = pieces_behind n cs

-- the pieces that a text spells, where it spells some
abbrev pub pieces : List ℕ → Option (List Piece)
pieces cs = pieces_behind 0 cs

-- what a function that reads answers, where this is what is there
pub record Reads {X : Type 0} (wanted : Option X) (result : Result X PatternFault) : Type 0 where
  pub ok : IfOk result (λ x. wanted ≡ Some x)
  pub err : IfErr result (λ f. (f ≡ NoMemory) ⊎ ((f ≡ Shape) × (wanted ≡ None)))
