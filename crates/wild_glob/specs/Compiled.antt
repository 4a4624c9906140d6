-- What the bytes of a pattern give.
use Rattle.std.specs.Prelude.{◌≢◌, ℕ, if◌then◌else◌, List, [], ◌∷◌, Option, Some, None, Result, Ok, Err}
use Rattle.std.specs.Str.{IsUtf8, is_utf8, chars}
use Rattle.wild_glob.specs.Spelling.{pieces}
use Rattle.wild_glob.specs.declared.piece.Piece.{Piece}
use Rattle.wild_glob.specs.declared.fault.PatternFault.{PatternFault}
use Rattle.wild_glob.specs.declared.fault.PatternFault.TheVariants.{Empty, NotUtf8, Shape}

-- a reading, or none
abbrev pub read : Option (List Piece) → Result (List Piece) PatternFault
read None = Err Shape
read (Some ps) = Ok ps

-- the pieces that the text spells, where the bytes are a text
abbrev pub compiled : List ℕ → Result (List Piece) PatternFault
compiled [] = Err Empty
compiled (b ∷ bs) = if is_utf8 (b ∷ bs) then read (pieces (chars (b ∷ bs))) else Err NotUtf8

-- one character or more, in UTF-8
abbrev pub IsText : List ℕ → Type 0
IsText bytes = (bytes ≢ []) × IsUtf8 bytes
