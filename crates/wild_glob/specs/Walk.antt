-- Where a walk up to the next `*` comes to.
use Rattle.std.specs.Prelude.{◌≡◌, ◌≤◌, ℕ, true, List, [], ◌∷◌, length}
use Rattle.std.specs.Str.{chars}
use Rattle.wild_glob.specs.Match.{is_any_run, some_suffix, matches}
use Rattle.wild_glob.specs.declared.piece.Piece.{Piece}

-- nothing is left, or a `*` comes next
abbrev pub StopsAtRun : List Piece → Type 0
StopsAtRun [] = Unit {0}
StopsAtRun (p ∷ ps) = is_any_run p ≡ true

-- the pieces match the text exactly where those that are left match what is left of it, and where the pieces match
-- some suffix, those that are left match some suffix of what is left
pub record Comes (ps : List Piece) (text : List ℕ) (left : List Piece) (rest : List ℕ) : Type 0 where
  pub same : matches ps (chars text) ≡ matches left (chars rest)
  pub later : some_suffix (matches ps) (chars text) ≡ true → some_suffix (matches left) (chars rest) ≡ true
  pub fewer : length left ≤ length ps
  pub shorter : length rest ≤ length text

-- the same, up to a `*` or the end
pub record RunsTo (ps : List Piece) (text : List ℕ) (left : List Piece) (rest : List ℕ) : Type 0 where
  pub stops : StopsAtRun left
  pub comes : Comes ps text left rest
