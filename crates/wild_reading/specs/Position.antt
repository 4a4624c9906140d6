-- Where reading is.
use Rattle.std.specs.Prelude.{ℕ, ◌+◌, ◌-◌, ◌≤◌, List, length, take, count_by, Bool, ◌||◌, ◌==◌}

-- each below 256
abbrev pub Bytes : Type 0
Bytes = List ℕ

-- how deep what is read may be
abbrev pub max_depth : ℕ
max_depth = 256

-- what is read: the bytes, where reading began in them, and how deep what is read may be
pub record Text : Type 0 where
  pub bytes : Bytes
  pub start : ℕ
  pub limit : ℕ

-- the text, the position in its bytes, and how much depth is left
pub record Position : Type 0 where
  pub text : Text
  pub at : ℕ
  pub left : ℕ

-- how many bytes are ahead
unfoldable pub ahead : Position → ℕ
ahead s = length s.text.bytes - s.at

-- ---- marks: the bytes that deepen what is read

-- one of `( ! ~ - ? + * / % < > = & | ^`
abbrev pub is_mark : ℕ → Bool
is_mark c = c == 40 || c == 33 || c == 126 || c == 45 || c == 63 || c == 43 || c == 42 || c == 47 || c == 37 || c == 60 || c == 62 || c == 61 || c == 38 || c == 124 || c == 94

-- how many are before a position
unfoldable pub mark_count : Bytes → ℕ → ℕ
mark_count b i = count_by is_mark (take i b)

-- The depth that is used, and so much more, is no more than the marks between the start and the position.
pub record IsPaid (more : ℕ) (s : Position) : Type 0 where
  pub paid : mark_count s.text.bytes s.text.start + s.text.limit + more ≤ s.left + mark_count s.text.bytes s.at

-- a mark is there for one level more
abbrev pub IsMarked : Position → Type 0
IsMarked s = IsPaid 1 s
