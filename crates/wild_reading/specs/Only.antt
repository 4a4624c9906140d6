-- What a function that reads answers.
use Rattle.std.specs.Prelude.{◌≡◌, ℕ, suc, ◌+◌, ◌≤◌, ◌<◌, length, codes, None, true, Result}
use Rattle.std.specs.Result.{IfOk, IfErr}
use Rattle.wild_reading.specs.Position.{Bytes, Text, Position, ahead, mark_count}
use Rattle.wild_reading.specs.Bytes.{begins_with, begins_comment}
use Rattle.wild_reading.specs.Lex.{after_close, sort_bracket}
use Rattle.wild_reading.specs.Reader.{Reader}
use Rattle.wild_reading.specs.declared.stop.Stop.{Stop}
use Rattle.wild_reading.specs.declared.stop.Stop.TheVariants.{Syntax, OpenComment, NestedSort, TooDeep, NoMemory}

-- this is read within the depth that is left, and nothing else at any depth
pub record IsOnly {X : Type 0} (R : Reader X) (s : Position) (x : X) (r : Position) : Type 0 where
  pub reads : R s.text.bytes s.left s.at x r.at
  pub only : (limit : ℕ) (y : X) (j : ℕ) → R s.text.bytes limit s.at y j → (y ≡ x) × (j ≡ r.at)
  pub text : r.text ≡ s.text
  pub left : r.left ≡ s.left
  pub forward : s.at ≤ r.at
  pub shrinks : ahead r ≤ ahead s

-- a fault of the text, at whatever depth
abbrev pub IsSyntax : Stop → Type 0
IsSyntax (Syntax position) = Unit {0}
IsSyntax (OpenComment position) = Unit {0}
IsSyntax (NestedSort position) = Unit {0}
IsSyntax (TooDeep position) = ⊥
IsSyntax NoMemory = ⊥

-- a fault, of the text or of its depth
abbrev pub IsFault : Stop → Type 0
IsFault (Syntax position) = Unit {0}
IsFault (OpenComment position) = Unit {0}
IsFault (NestedSort position) = Unit {0}
IsFault (TooDeep position) = Unit {0}
IsFault NoMemory = ⊥

-- a comment begins at the position, and nothing after its slash closes it
pub record IsOpenComment (b : Bytes) (position : ℕ) : Type 0 where
  pub within : position ≤ length b
  pub opens : begins_comment b position ≡ true
  pub closes : after_close b (position + 1) ≡ None

-- `SORT` is at the position, directly after a sort word and its bracket
pub record IsNestedSort (b : Bytes) (position : ℕ) : Type 0 where
  pub within : position ≤ length b
  pub sorts : begins_with (codes "SORT") b position ≡ true
  pub word : ℕ
  pub bracket : sort_bracket b 0 word tt position

-- as many marks as the limit of depth are between the start and the position
pub record IsTooDeep (text : Text) (position : ℕ) : Type 0 where
  pub within : position ≤ length text.bytes
  pub marks : mark_count text.bytes text.start + text.limit ≤ mark_count text.bytes position

-- what the text shows at the position of a fault
abbrev pub IsCause : Stop → Text → Type 0
IsCause (Syntax position) text = position ≤ length text.bytes
IsCause (OpenComment position) text = IsOpenComment text.bytes position
IsCause (NestedSort position) text = IsNestedSort text.bytes position
IsCause (TooDeep position) text = IsTooDeep text position
IsCause NoMemory text = Unit {0}

-- A fault says that nothing is read within the depth that is left, and one of the text that nothing is at any depth.
pub record Refuses {X : Type 0} (R : Reader X) (s : Position) (stop : Stop) : Type 0 where
  pub none : IsFault stop → (y : X) (j : ℕ) → R s.text.bytes s.left s.at y j → ⊥
  pub never : IsSyntax stop → (limit : ℕ) (y : X) (j : ℕ) → R s.text.bytes limit s.at y j → ⊥
  pub cause : IsCause stop s.text

-- what is read, and nothing else; or why nothing is
pub record Answers {X : Type 0} (R : Reader X) (s r : Position) (result : Result X Stop) : Type 0 where
  pub ok : IfOk result (λ x. IsOnly R s x r)
  pub err : IfErr result (λ stop. Refuses R s stop)

-- ---- one deeper

-- the same position, with one less of depth
pub record IsInside (s : Position) (r : Position) : Type 0 where
  pub text : r.text ≡ s.text
  pub at : r.at ≡ s.at
  pub left : suc r.left ≡ s.left
  pub within : r.left < r.text.limit

-- no depth is left
pub record IsFull (s : Position) (stop : Stop) : Type 0 where
  pub left : s.left ≡ 0
  pub deep : IsSyntax stop → ⊥
  pub cause : IsCause stop s.text

-- one deeper, or no depth is left
pub record Enters (s r : Position) (result : Result (Unit {0}) Stop) : Type 0 where
  pub ok : IfOk result (λ _. IsInside s r)
  pub err : IfErr result (λ stop. IsFull s stop)

-- the same position, with one more of depth
pub record Leaves (s r : Position) : Type 0 where
  pub text : r.text ≡ s.text
  pub at : r.at ≡ s.at
  pub left : r.left ≡ suc s.left
