-- The three cases of a gap, and what stays open in one.
use Rattle.std.specs.Prelude.{◌≡◌, ℕ, ◌≤◌, true, false, length, Result, Ok, Err}
use Rattle.wild_names.specs.declared.fault.Fault.{Fault}
use Rattle.wild_reading.specs.Position.{Bytes}
use Rattle.wild_reading.specs.Lex.{past_white, ends_gap, stretch_end, gap_end}
use Rattle.wild_reading.specs.Faults.{fault_of}
use Rattle.wild_reading.specs.Only.{IsOpenComment}
use Rattle.wild_reading.specs.declared.stop.Stop.{Stop}
use Rattle.wild_reading.specs.declared.stop.Stop.TheVariants.{Syntax, OpenComment}

-- what shows that a line or a comment does not end
abbrev pub IsOpen : Bytes → Stop → Type 0
IsOpen b (Syntax position) = position ≤ length b
IsOpen b (OpenComment position) = IsOpenComment b position
IsOpen b stop = ⊥

-- the end, or the fault that says why there is none
abbrev pub with_fault : Result ℕ Stop → Result ℕ Fault
with_fault (Ok end) = Ok end
with_fault (Err stop) = Err (fault_of stop)

-- White is taken. Then the gap ends there; or a line or a comment begins there that does not end; or it is passed, and
-- the gap begins again after it.
pub record HasThreeCases (b : Bytes) (i : ℕ) : Type 0 where
  pub ends : ends_gap b (past_white b i) ≡ true → gap_end b i ≡ Ok (past_white b i)
  pub stays : (stop : Stop) → ends_gap b (past_white b i) ≡ false → stretch_end b (past_white b i) ≡ Err stop → gap_end b i ≡ Err stop
  pub goes : (m : ℕ) → ends_gap b (past_white b i) ≡ false → stretch_end b (past_white b i) ≡ Ok m → gap_end b i ≡ gap_end b m

-- it does at each position
abbrev pub GapsHaveThreeCases : Type 0
GapsHaveThreeCases = (b : Bytes) (i : ℕ) → HasThreeCases b i
