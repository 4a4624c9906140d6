-- Marks add up along the bytes.
use Rattle.std.proofs.Common.{◌≡◌, ◌<◌, ◌≤◌, ◌+◌, ◌-◌, ℕ, Bool, true, List, length, get_or, take, drop, cond, arith, subst, Option, Some, None, refl, ap, sym, ◌∙◌}
use Rattle.std.specs.Prelude.{slice_get}
use Rattle.std.specs.List.{count_by}
use Rattle.std.proofs.lemmas.List.Sums.{count_by_more_yes, sum_by-append}
use Rattle.std.proofs.lemmas.Option.{slice_get_within, get_or_from_slice_get}
use Rattle.std.proofs.lemmas.Bool.{eqb-true}
use Rattle.std.proofs.Math.Seq.{take-add}
use Rattle.wild_reading.specs.Position.{Bytes, Text, Position, IsPaid, is_mark, mark_count}
use Rattle.wild_reading.specs.Bytes.{is_byte, begins}
use Rattle.wild_reading.specs.Only.{IsOnly}
use Rattle.wild_reading.specs.Reader.{Reader}

taken : (p : ℕ → Bool) (b : List ℕ) (i k : ℕ) → count_by p (take i b) ≤ count_by p (take (i + k) b)
taken p b i k = rw (take-add i k b) (omega (arith, sum_by-append (λ x. cond (p x) 1 0) (take i b) (take k (drop i b))))

pub mark_count-rises : (b : Bytes) (i j : ℕ) → i ≤ j → mark_count b i ≤ mark_count b j
unfolding mark_count
mark_count-rises b i j h = let e : i + (j - i) ≡ j = omega arith in subst (λ k. count_by is_mark (take i b) ≤ count_by is_mark (take k b)) e (taken is_mark b i (j - i))

mark_count-next : (b : Bytes) (i : ℕ) → i < length b → is_mark (get_or b i 0) ≡ true → mark_count b (i + 1) ≡ mark_count b i + 1
unfolding mark_count
mark_count-next b i h m = count_by_more_yes is_mark b i 0 h m

found_mark : (b : Bytes) (c i : ℕ) (o : Option ℕ) → slice_get b i ≡ o → is_byte c o ≡ true → is_mark c ≡ true → mark_count b i + 1 ≤ mark_count b (i + 1)
found_mark b c i None g h m = absurd cc
found_mark b c i (Some d) g h m =
    let same : d ≡ c = eqb-true d c h in
    let is : is_mark (get_or b i 0) ≡ true = ap is_mark (get_or_from_slice_get b i d 0 g ∙ same) ∙ m in
    omega (arith, mark_count-next b i (slice_get_within b i d g) is)

-- a mark that stands ahead counts
pub marked : (c : ℕ) (b : Bytes) (i : ℕ) → begins c b i ≡ true → is_mark c ≡ true → mark_count b i + 1 ≤ mark_count b (i + 1)
unfolding begins
marked c b i h m = found_mark b c i (slice_get b i) refl h m

-- what is paid stays paid while reading goes on
pub paid_on : {X : Type 0} {R : Reader X} {s r : Position} {x : X} {more : ℕ} → IsOnly R s x r → IsPaid more s → IsPaid more r
paid_on {s = s} {r = r} {more = more} p q =
    let at_start : IsPaid more (record { text = s.text; at = r.at; left = s.left }) = record { paid = omega (arith, q.paid, mark_count-rises s.text.bytes s.at r.at p.forward) } in
    let text_same : IsPaid more (record { text = r.text; at = r.at; left = s.left }) = subst (λ (t : Text). IsPaid more (record { text = t; at = r.at; left = s.left })) (sym p.text) at_start in
    record { paid = omega (arith, text_same.paid, p.left) }
