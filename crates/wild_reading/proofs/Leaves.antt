-- A position further on has less ahead, and no fewer marks before it.
use Rattle.std.proofs.Common.{◌≡◌, ℕ, ◌+◌, ◌≤◌, ◌<◌, length, arith, true, false, Bool, refl, if◌then◌else◌}
use Rattle.std.specs.Prelude.{not, ◌&&◌, Option, None}
use Rattle.wild_reading.specs.Position.{Bytes, Text, ahead, mark_count}
use Rattle.wild_reading.specs.Bytes.{begins, begins_comment}
use Rattle.wild_reading.specs.Lex.{after_comment, ends_gap}
use Rattle.wild_reading.specs.Gap.{IsOpen}
use Rattle.wild_reading.specs.Only.{IsOpenComment, IsCause}
use Rattle.wild_reading.specs.declared.stop.Stop.{Stop}
use Rattle.wild_reading.specs.declared.stop.Stop.TheVariants.{Syntax, OpenComment, NestedSort, TooDeep, NoMemory}
use Rattle.wild_reading.proofs.Marks.{mark_count-rises}

pub ahead_less : (t : Text) (i j k l : ℕ) → i ≤ j → ahead (record { text = t; at = j; left = k }) ≤ ahead (record { text = t; at = i; left = l })
unfolding ahead
ahead_less t i j k l h = omega arith

pub ahead_shorter : (t : Text) (i j k l : ℕ) → i < j → j ≤ length t.bytes → ahead (record { text = t; at = j; left = k }) < ahead (record { text = t; at = i; left = l })
unfolding ahead
ahead_shorter t i j k l h w = omega arith

pub ahead_by : (t : Text) (i k l n : ℕ) → i + n ≤ length t.bytes → ahead (record { text = t; at = i + n; left = l }) + n ≤ ahead (record { text = t; at = i; left = k })
unfolding ahead
ahead_by t i k l n h = omega (arith, h)

-- as many marks as before, further on
pub marks_stay : (b : Bytes) (i j n : ℕ) → n ≤ mark_count b i → i ≤ j → n ≤ mark_count b j
marks_stay b i j n h g = omega (arith, mark_count-rises b i j g)

commented : (h c : Bool) → (not h && not c) ≡ false → h ≡ false → c ≡ true
commented true c e g = absurd cc
commented false true e g = refl
commented false false e g = absurd cc

unclosed : {o : Option ℕ} (c : Bool) → c ≡ true → (if c then o else None) ≡ None → o ≡ None
unclosed true e h = h
unclosed false e h = absurd cc

-- what an open comment shows
pub open_comment : (b : Bytes) (i : ℕ) → ends_gap b i ≡ false → begins 35 b i ≡ false → i ≤ length b → after_comment b i ≡ None → IsOpenComment b i
unfolding ends_gap after_comment
open_comment b i e h within closes =
    let opens = commented (begins 35 b i) (begins_comment b i) e h in
    record { within = within; opens = opens; closes = unclosed (begins_comment b i) opens closes }

pub open_cause : (t : Text) (stop : Stop) → IsOpen t.bytes stop → IsCause stop t
open_cause t (Syntax position) h = h
open_cause t (OpenComment position) h = h
open_cause t (NestedSort position) h = absurd h
open_cause t (TooDeep position) h = absurd h
open_cause t NoMemory h = absurd h

pub ruleset moves = (ahead_less, ahead_shorter, ahead_by, marks_stay, mark_count-rises)

pub ruleset open_comments = (open_comment)

pub ruleset causes = (open_cause)
