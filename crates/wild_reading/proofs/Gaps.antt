-- Where a gap ends, one line or comment after another.
use Rattle.std.proofs.Common.{◌≡◌, ℕ, zero, suc, ◌+◌, ◌-◌, ◌≤◌, ◌<◌, Bool, true, false, length, refl, ◌∙◌, if◌then◌else◌, arith}
use Rattle.std.specs.Prelude.{Option, Some, None, Result, Ok, Err, cond}
use Rattle.std.specs.Option.{option_map}
use Rattle.std.specs.List.{find, range_with_len}
use Rattle.std.proofs.lemmas.Option.{slice_get_past}
use Rattle.wild_reading.specs.Position.{Bytes}
use Rattle.wild_reading.specs.Bytes.{run_end, begins, begins_comment, ends_comment}
use Rattle.wild_reading.specs.Lex.{past_white, after_line, after_close, after_comment, ends_gap, or_stop, stretch_end, go_on, stretches_end, rest_of_gap, gap_end}
use Rattle.wild_reading.specs.Gap.{GapsHaveThreeCases}
use Rattle.wild_reading.specs.declared.classes.Class.{Class}
use Rattle.wild_reading.specs.declared.classes.Class.TheVariants as k
use Rattle.wild_reading.specs.declared.stop.Stop.{Stop}
use Rattle.wild_reading.specs.declared.stop.Stop.TheVariants.{Syntax, OpenComment}

-- ---- each line and each comment takes a byte

found_by : (c : Bool) (i k : ℕ) (o : Option ℕ) → (o ≡ Some k → i + 1 ≤ k) → cond c (Some i) o ≡ Some k → i ≤ k
found_by true i k o f h = let e : i ≡ k = cc in omega (arith, e)
found_by false i k o f h = omega (arith, f h)

found_on : (p : ℕ → Bool) (n i k : ℕ) → find p (range_with_len i n) ≡ Some k → i ≤ k
found_on p zero i k h = absurd cc
found_on p (suc n) i k h = found_by (p i) i k (find p (range_with_len (i + 1) n)) (found_on p n (i + 1) k) h

mapped : (o : Option ℕ) (k : ℕ) → option_map (λ m. m + 2) o ≡ Some k → (m : ℕ) × (o ≡ Some m) × (k ≡ m + 2)
mapped None k h = absurd cc
mapped (Some m) k h = (m, refl, cc)

close_on : (b : Bytes) (i k : ℕ) → after_close b i ≡ Some k → i < k
unfolding after_close
close_on b i k h =
    let m = mapped (find (ends_comment b) (range_with_len i (length b - i))) k h in
    omega (arith, found_on (ends_comment b) (length b - i) i m.0 m.1, m.2)

chosen : {o : Option ℕ} (c : Bool) (k : ℕ) → (if c then o else None) ≡ Some k → o ≡ Some k
chosen true k h = h
chosen false k h = absurd cc

comment_on : (b : Bytes) (i m : ℕ) → after_comment b i ≡ Some m → i < m
unfolding after_comment
comment_on b i m h = omega (arith, close_on b (i + 1) m (chosen (begins_comment b i) m h))

run_on : (class : Class) (b : Bytes) (i : ℕ) → i ≤ run_end class b i
unfolding run_end
run_on class b i = omega arith

line_on : (b : Bytes) (i m : ℕ) → after_line b i ≡ Some m → i ≤ m
unfolding after_line
line_on b i m h =
    let e : Some (run_end k.Line b i) ≡ Some m = chosen (begins 10 b (run_end k.Line b i)) m h in
    let same : run_end k.Line b i ≡ m = cc in
    omega (arith, same, run_on k.Line b i)

there : (stop : Stop) (o : Option ℕ) (m : ℕ) → or_stop stop o ≡ Ok m → o ≡ Some m
there stop (Some n) m h = cc
there stop None m h = absurd cc

part_on : (b : Bytes) (i m : ℕ) (c : Bool) → (if c then or_stop (Syntax (i + 1)) (after_line b (i + 1)) else or_stop (OpenComment i) (after_comment b i)) ≡ Ok m → i < m
part_on b i m true h = omega (arith, line_on b (i + 1) m (there (Syntax (i + 1)) (after_line b (i + 1)) m h))
part_on b i m false h = comment_on b i m (there (OpenComment i) (after_comment b i) m h)

stretch_on : (b : Bytes) (i m : ℕ) → stretch_end b i ≡ Ok m → i < m
unfolding stretch_end
stretch_on b i m h = part_on b i m (begins 35 b i) h

-- ---- so there are no more than bytes

end_ends : (b : Bytes) (i : ℕ) → length b ≤ i → ends_gap b i ≡ true
unfolding ends_gap begins begins_comment
end_ends b i h = rw (slice_get_past b i h) refl

same_step : (i : ℕ) (f g : ℕ → Result ℕ Stop) (c : Bool) (r : Result ℕ Stop) → ((m : ℕ) → r ≡ Ok m → f m ≡ g m) → (if c then Ok i else go_on f r) ≡ (if c then Ok i else go_on g r)
same_step i f g true r h = refl
same_step i f g false (Err stop) h = refl
same_step i f g false (Ok m) h = h m refl

enough : (n : ℕ) (b : Bytes) (i : ℕ) → length b ≤ n + i → stretches_end n b i ≡ stretches_end (suc n) b i
unfolding stretches_end
enough zero b i h = rw (end_ends b i (omega (arith, h))) refl
enough (suc n) b i h = same_step i (λ m. stretches_end n b (past_white b m)) (λ m. stretches_end (suc n) b (past_white b m)) (ends_gap b i) (stretch_end b i) (λ m e. enough n b (past_white b m) (omega (arith, h, stretch_on b i m e, run_on k.White b m)))

one_more : (b : Bytes) (i : ℕ) → rest_of_gap b i ≡ stretches_end (suc (length b)) b i
unfolding rest_of_gap
one_more b i = enough (length b) b i (omega arith)

-- ---- the three cases

pub rest_ends : (b : Bytes) (i : ℕ) → ends_gap b i ≡ true → rest_of_gap b i ≡ Ok i
unfolding stretches_end
rest_ends b i e = one_more b i ∙ rw e refl

pub rest_stays : (b : Bytes) (i : ℕ) (stop : Stop) → ends_gap b i ≡ false → stretch_end b i ≡ Err stop → rest_of_gap b i ≡ Err stop
unfolding stretches_end
rest_stays b i stop e s = one_more b i ∙ rw (e, s) refl

pub rest_goes : (b : Bytes) (i m : ℕ) → ends_gap b i ≡ false → stretch_end b i ≡ Ok m → rest_of_gap b i ≡ rest_of_gap b (past_white b m)
unfolding stretches_end rest_of_gap
rest_goes b i m e s = one_more b i ∙ rw (e, s) refl

pub gap_begins : (b : Bytes) (i : ℕ) → gap_end b i ≡ rest_of_gap b (past_white b i)
unfolding gap_end
gap_begins b i = refl

pub three_cases : GapsHaveThreeCases
unfolding gap_end
three_cases b i = record {
  ends = rest_ends b (past_white b i);
  stays = rest_stays b (past_white b i);
  goes = λ m e s. rest_goes b (past_white b i) m e s;
}

pub ruleset gaps = (gap_begins, rest_ends, rest_stays, rest_goes)
