-- The grammar of patterns: what spells a piece, and what spells pieces.
use Rattle.std.specs.Prelude.{◌≡◌, ◌≢◌, ◌⊎◌, ℕ, Bool, true, false, ◌==◌, List, [], ◌∷◌, ◌++◌}
use Rattle.std.specs.List.{list_any}
use Rattle.wild_glob.specs.Character.{star, question_mark, open_bracket, close_bracket, exclamation_mark, backslash}
use Rattle.wild_glob.specs.Class.{class_items}
use Rattle.wild_glob.specs.declared.piece.Piece.{Piece}
use Rattle.wild_glob.specs.declared.piece.Piece.TheVariants.{AnyRun, AnyCharacter, Class, Literal}

-- `[` or `[!`
abbrev pub opening : Bool → List ℕ
opening false = open_bracket ∷ []
opening true = open_bracket ∷ exclamation_mark ∷ []

-- what may be between the brackets: one character or more, no `]` after the first one, and after a bare `[` no `!`
-- in first place
abbrev pub IsContent : Bool → List ℕ → Type 0
IsContent negated [] = ⊥
IsContent negated (c ∷ cs) = (negated ≡ false → c ≢ exclamation_mark) × (list_any (λ b. b == close_bracket) cs ≡ false)

-- a character that begins no other piece
abbrev pub IsPlain : ℕ → Type 0
IsPlain c = (c ≢ star) × (c ≢ question_mark) × (c ≢ open_bracket) × (c ≢ backslash)

-- what spells a piece
abbrev pub IsSpelling : Piece → List ℕ → Type 0
IsSpelling AnyRun cs = cs ≡ star ∷ []
IsSpelling AnyCharacter cs = cs ≡ question_mark ∷ []
IsSpelling (Class negated items) cs =
    (content : List ℕ) × (IsContent negated content × (items ≡ class_items content) × (cs ≡ opening negated ++ (content ++ close_bracket ∷ [])))
IsSpelling (Literal c) cs = (cs ≡ backslash ∷ c ∷ []) ⊎ (IsPlain c × (cs ≡ c ∷ []))

-- no two `*` side by side
abbrev pub IsApart : Piece → List Piece → Type 0
IsApart p [] = Unit {0}
IsApart p (q ∷ qs) = p ≡ AnyRun → q ≢ AnyRun

-- what spells pieces: a spelling of each, one after the other
abbrev pub Spells : List Piece → List ℕ → Type 0
Spells [] cs = cs ≡ []
Spells (p ∷ ps) cs = (first : List ℕ) × ((rest : List ℕ) × ((cs ≡ first ++ rest) × IsSpelling p first × IsApart p ps × Spells ps rest))
