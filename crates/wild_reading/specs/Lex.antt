-- Gaps, tokens and symbols.
use Rattle.std.specs.Prelude.{ℕ, zero, suc, ◌+◌, ◌-◌, ◌==◌, Bool, true, false, not, ◌&&◌, if◌then◌else◌, List, take, drop, length, codes, Option, Some, None, Result, Ok, Err}
use Rattle.std.specs.Option.{option_map}
use Rattle.std.specs.Result.{result_ok}
use Rattle.std.specs.List.{find, range_with_len}
use Rattle.wild_reading.specs.Position.{Bytes}
use Rattle.wild_reading.specs.Bytes.{run_end, begins, begins_with, begins_comment, ends_comment}
use Rattle.wild_reading.specs.Reader.{Reader, ◌>>=◌, ◌>>◌, Give, Passes, Takes, Choice}
use Rattle.wild_reading.specs.declared.classes.Class.{Class}
use Rattle.wild_reading.specs.declared.classes.Class.TheVariants as k
use Rattle.wild_reading.specs.declared.stop.Stop.{Stop}
use Rattle.wild_reading.specs.declared.stop.Stop.TheVariants.{Syntax, OpenComment}

-- ---- bytes

-- after a byte
unfoldable pub after_byte : ℕ → Bytes → ℕ → Option ℕ
after_byte c b i = if begins c b i then Some (i + 1) else None

-- this byte
unfoldable pub byte : ℕ → Reader (Unit {0})
byte c = Passes (after_byte c)

-- ---- gaps

-- the position after the white at a position
abbrev pub past_white : Bytes → ℕ → ℕ
past_white = run_end k.White

-- there is always one
unfoldable pub after_white : Bytes → ℕ → Option ℕ
after_white b i = Some (past_white b i)

-- white, perhaps none
unfoldable pub white : Reader (Unit {0})
white = Passes after_white

-- up to the newline that ends a line
unfoldable pub after_line : Bytes → ℕ → Option ℕ
after_line b i = if begins 10 b (run_end k.Line b i) then Some (run_end k.Line b i) else None

-- after the first `*/` from the position on
unfoldable pub after_close : Bytes → ℕ → Option ℕ
after_close b i = option_map (λ k. k + 2) (find (ends_comment b) (range_with_len i (length b - i)))

-- after a comment, whose end may begin at its star
unfoldable pub after_comment : Bytes → ℕ → Option ℕ
after_comment b i = if begins_comment b i then after_close b (i + 1) else None

-- neither a line nor a comment begins here
unfoldable pub ends_gap : Bytes → ℕ → Bool
ends_gap b i = not (begins 35 b i) && not (begins_comment b i)

-- what is there, or else why reading stops
abbrev pub or_stop : Stop → Option ℕ → Result ℕ Stop
or_stop stop None = Err stop
or_stop stop (Some end) = Ok end

-- the end of the line or of the comment that begins here, or that it has none
unfoldable pub stretch_end : Bytes → ℕ → Result ℕ Stop
stretch_end b i = if begins 35 b i then or_stop (Syntax (i + 1)) (after_line b (i + 1)) else or_stop (OpenComment i) (after_comment b i)

-- goes on from an end, if there is one
abbrev pub go_on : (ℕ → Result ℕ Stop) → Result ℕ Stop → Result ℕ Stop
go_on f (Err stop) = Err stop
go_on f (Ok m) = f m

-- after so many lines and comments, each with the white after it, or fewer where the gap ends before
unfoldable pub stretches_end : ℕ → Bytes → ℕ → Result ℕ Stop
stretches_end zero b i = Ok i
stretches_end (suc n) b i = if ends_gap b i then Ok i else go_on (λ m. stretches_end n b (past_white b m)) (stretch_end b i)

-- after all of them: each takes a byte
unfoldable pub rest_of_gap : Bytes → ℕ → Result ℕ Stop
rest_of_gap b i = stretches_end (length b) b i

-- after white, lines and comments, or what stays open
unfoldable pub gap_end : Bytes → ℕ → Result ℕ Stop
gap_end b i = rest_of_gap b (past_white b i)

-- the end, if there is one
unfoldable pub after_gap : Bytes → ℕ → Option ℕ
after_gap b i = result_ok (gap_end b i)

-- white, lines and comments
unfoldable pub gap : Reader (Unit {0})
gap = Passes after_gap

-- ---- tokens

-- what a token says, and whether it is in quotes
pub record Word : Type 0 where
  pub content : List ℕ
  pub quoted : Bool

-- the bytes from one position to another
abbrev pub between : Bytes → ℕ → ℕ → List ℕ
between b i j = take (j - i) (drop i b)

-- a run of the class, of one byte at least, and the position after it
unfoldable pub run_at : Class → Bytes → ℕ → Option (Word × ℕ)
run_at class b i = if run_end class b i == i then None else Some (record { content = between b i (run_end class b i); quoted = false }, run_end class b i)

-- the longest run of the class
unfoldable pub run : Class → Reader Word
run class = Takes (run_at class)

-- after the quote that opens: the bytes up to the quote that closes, and the position after that
unfoldable pub quoted_at : Bytes → ℕ → Option (Word × ℕ)
quoted_at b i =
    let end = run_end k.Quotes b i in
    if begins 34 b end then Some (record { content = between b i end; quoted = true }, end + 1) else None

-- what is in quotes, and the quote that closes
unfoldable pub quoted : Reader Word
quoted = Takes quoted_at

-- bytes in quotes
unfoldable pub quoted_token : Reader Word
quoted_token = do
  byte 34
  quoted

-- a token in quotes where a quote is ahead, and else a run
unfoldable pub token : Reader Word
token = Choice (begins 34) quoted_token (run k.Token)

-- a token and the gap after it
unfoldable pub word : Reader Word
word = do
  w ← token
  gap
  Give w

-- the content of a token, and the gap after it
unfoldable pub name : Reader (List ℕ)
name = do
  w ← word
  Give w.content

-- ---- symbols

-- a byte and the gap after it
unfoldable pub symbol : ℕ → Reader (Unit {0})
symbol c = do
  byte c
  gap

-- after these bytes, if they are ahead
unfoldable pub after_text : List ℕ → Bytes → ℕ → Option ℕ
after_text t b i = if begins_with t b i then Some (i + length t) else None

-- these bytes
unfoldable pub text : List ℕ → Reader (Unit {0})
text t = Passes (after_text t)

-- these bytes and the gap after them
unfoldable pub keyword : List ℕ → Reader (Unit {0})
keyword t = do
  text t
  gap

-- ---- what can be read ahead, as functions of bytes

-- after this byte and the gap after it
unfoldable pub after_symbol : ℕ → Bytes → ℕ → Option ℕ
after_symbol c b i = if begins c b i then after_gap b (i + 1) else None

-- the token at a position, and the position after it
unfoldable pub token_at : Bytes → ℕ → Option (Word × ℕ)
token_at b i = if begins 34 b i then quoted_at b (i + 1) else run_at k.Token b i

-- with an end, if there is one
abbrev pub and_end : {A : Type 0} → A → Option ℕ → Option (A × ℕ)
and_end x None = None
and_end x (Some end) = Some (x, end)

-- the end moved to that of the gap after it
abbrev pub and_gap : Bytes → Option (Word × ℕ) → Option (Word × ℕ)
and_gap b None = None
and_gap b (Some found) = and_end found.0 (after_gap b found.1)

-- the token at a position, and the position after the gap after it
unfoldable pub word_at : Bytes → ℕ → Option (Word × ℕ)
word_at b i = and_gap b (token_at b i)

-- after a byte, if it is ahead
unfoldable pub after_optional : ℕ → Bytes → ℕ → Option ℕ
after_optional c b i = if begins c b i then Some (i + 1) else Some i

-- this byte or none
unfoldable pub optional : ℕ → Reader (Unit {0})
optional c = Passes (after_optional c)

-- a byte or none, and the gap after it
unfoldable pub optional_symbol : ℕ → Reader (Unit {0})
optional_symbol c = do
  optional c
  gap

-- ---- sort words

-- after a sort word: the first of SORT_BY_NAME, SORT_BY_ALIGNMENT and SORT that is there
unfoldable pub after_sort_word : Bytes → ℕ → Option ℕ
after_sort_word b i =
    if begins_with (codes "SORT_BY_NAME") b i then Some (i + 12)
    else if begins_with (codes "SORT_BY_ALIGNMENT") b i then Some (i + 17)
    else if begins_with (codes "SORT") b i then Some (i + 4)
    else None

-- a sort word and its bracket
unfoldable pub sort_bracket : Reader (Unit {0})
sort_bracket = do
  Passes after_sort_word
  gap
  byte 40
