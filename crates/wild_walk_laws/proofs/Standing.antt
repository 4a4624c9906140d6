-- Rows stand at multiples of their alignments and end below 2 ^ 64, wherever places are laid out.
use Rattle.std.proofs.Common.{◌≡◌, ◌∙◌, ℕ, ◌+◌, ◌%◌, ◌^◌, ◌<◌, ◌≤◌, nat_lt, Bool, true, false, cond, List, [], ◌∷◌, Option, Some, Ok, refl, sym, ap, ⊎_elim, arith}
use Rattle.std.specs.Prelude.{slice_get}
use Rattle.std.specs.List.{All}
use Rattle.std.specs.List.Sorted.{IsSortedBy}
use Rattle.std.specs.Ordering.{is_lt, ordering_then}
use Rattle.std.specs.declared.cmp.Ordering.{Ordering}
use Rattle.std.specs.declared.cmp.Ordering.TheVariants.{Less, Equal, Greater}
use Rattle.std.proofs.lemmas.Bool.{cases_lt, lt-ltb, eqb-true}
use Rattle.std.proofs.lemmas.List.Elements.{All-nil, All-cons, All-head, All-tail, All-weaker}
use Rattle.wild_value_spec.specs.Known.{Known, End, Address, Dot, with_number}
use Rattle.wild_plan_spec.specs.declared.chunk.ChunkRow.{ChunkRow}
use Rattle.wild_plan_spec.specs.declared.chunk.Kept.{Kept}
use Rattle.wild_plan_spec.specs.declared.row.InputRow.{InputRow}
use Rattle.wild_plan_spec.specs.Case.{Case}
use Rattle.wild_plan_spec.specs.Chunks.{alignment_of, largest}
use Rattle.wild_plan_spec.specs.Fates.{fates_of}
use Rattle.wild_plan_spec.specs.Fit.{IsLaid}
use Rattle.wild_plan_spec.specs.Steps.{State, row_placed, rows_placed, chunk_placed}
use Rattle.wild_plan_spec.specs.Order.{stands_before}
use Rattle.wild_plan_spec.proofs.Ordered.{none_less, sorted_tail}
use Rattle.wild_plan_spec.proofs.RowOrder.{stands_weakly}
use Rattle.wild_walk_laws.specs.Holding.{StandInPlace}
use Rattle.wild_walk_laws.proofs.Chunked.{IsRow, chunk_rows}
use Rattle.wild_walk_laws.proofs.Entries.{other_entry, entry_is}
use Rattle.wild_walk_laws.proofs.Fresh.{opened_address}
use Rattle.wild_walk_laws.proofs.Steps.{IsMultiple, lower_power, sum_multiple, noted_at, opened_at, ended_at, bind_ok, by_state, by_row, by_chunk}
use Rattle.wild_walk_laws.proofs.Walked.{laid_walked}

-- ---- the order of rows

falls_by : (b : Bool) (m n : ℕ) (e : Bool) (r : Ordering) → nat_lt m n ≡ b → is_lt (ordering_then (cond b Less (cond e Equal Greater)) r) ≡ false → n ≤ m
falls_by true m n e r is h = absurd (cc)
falls_by false m n e r is h = ⊎_elim (λ lt. let t = lt-ltb m n lt in absurd (cc)) (λ le. le) (cases_lt m n)

falls : (c d : ChunkRow) → stands_before d c ≡ false → d.alignment.0 ≤ c.alignment.0
falls c d h = falls_by (nat_lt c.alignment.0 d.alignment.0) c.alignment.0 d.alignment.0 _ _ refl h

-- no alignment is above this one
abbrev AllBelow : ℕ → List ChunkRow → Type 0
AllBelow top cs = All (λ (c : ChunkRow). c.alignment.0 ≤ top) cs

all_below_largest : (cs : List ChunkRow) → AllBelow (largest cs) cs
all_below_largest [] = All-nil (λ (c : ChunkRow). c.alignment.0 ≤ 0)
all_below_largest (c ∷ cs) =
    All-cons (λ (d : ChunkRow). d.alignment.0 ≤ largest (c ∷ cs)) c cs (omega arith)
    (All-weaker (λ (d : ChunkRow). d.alignment.0 ≤ largest cs) (λ (d : ChunkRow). d.alignment.0 ≤ largest (c ∷ cs)) (λ d h. omega (arith, h)) cs (all_below_largest cs))

-- the rows after one do not have a larger alignment
all_below_first : (c : ChunkRow) (cs : List ChunkRow) → IsSortedBy stands_before (c ∷ cs) → AllBelow c.alignment.0 cs
all_below_first c cs up = All-weaker (λ (d : ChunkRow). stands_before d c ≡ false) (λ (d : ChunkRow). d.alignment.0 ≤ c.alignment.0) (falls c) cs (none_less stands_before stands_weakly c cs up)

-- ---- rows

module _ (rows : List InputRow) (fates : List (Option Kept)) where
  abbrev InPlace : Known → Type 0
  InPlace known = StandInPlace rows known

  stays : (known next : Known) → ((r : ℕ) → next (Address r) ≡ known (Address r)) → InPlace known → InPlace next
  stays known next same h r row a there at = h r row a there (sym (same r) ∙ at)

  one_more : (c : ChunkRow) (cursor size : ℕ) (known : Known) → IsRow rows fates c → IsMultiple cursor c.alignment.0 → c.size ≤ size → cursor + size < 2 ^ 64 → InPlace known → InPlace (with_number (Address c.row) cursor known)
  one_more c cursor size known of fits big ends h r row a there at = ⊎_elim
      (λ old. h r row a there old)
      (λ new. let both : Some of.row ≡ Some row = sym of.there ∙ ap (slice_get rows) (eqb-true c.row r new.0) ∙ there in
      let same : of.row ≡ row = cc in
      let alignment : c.alignment.0 ≡ alignment_of row = of.alignment ∙ ap alignment_of same in
      let sizes : c.size ≡ row.size = of.size ∙ ap (λ (i : InputRow). i.size) same in
      record {
        aligned = ap (λ (n : ℕ). n % 2 ^ alignment_of row) (sym new.1) ∙ ap (λ (e : ℕ). cursor % 2 ^ e) (sym alignment) ∙ fits;
        ends = omega (arith, sizes, big, ends);
      })
      (entry_is (Address c.row) cursor known (Address r) a at)

  -- a row, and the cursor after it
  abbrev Stepped : ChunkRow → State → Type 0
  Stepped c next = InPlace next.known × IsMultiple next.cursor c.alignment.0

  row_stands : (c : ChunkRow) (st next : State) → IsRow rows fates c → IsMultiple st.cursor c.alignment.0 → InPlace st.known → row_placed c st ≡ Ok next → Stepped c next
  row_stands c st next of at h e = by_row (Stepped c) c st next e (λ size end up sum fits.
      let big = up.reaches in (
        one_more c st.cursor size st.known of at big (omega (arith, sum, fits)) h,
        ap (λ (n : ℕ). n % 2 ^ c.alignment.0) sum ∙ sum_multiple st.cursor size c.alignment.0 at up.multiple,
      ))

  rows_stand : (cs : List ChunkRow) (top : ℕ) (st next : State) → All (IsRow rows fates) cs → IsSortedBy stands_before cs → AllBelow top cs → IsMultiple st.cursor top → InPlace st.known → rows_placed cs st ≡ Ok next → InPlace next.known
  rows_stand [] top st next all up below at h e = by_state (λ (s : State). InPlace s.known) st next e h
  rows_stand (c ∷ cs) top st next all up below at h e =
      let first = bind_ok (row_placed c st) (λ s. rows_placed cs s) next e in
      let low = All-head (λ (d : ChunkRow). d.alignment.0 ≤ top) c cs below in
      let here = row_stands c st first.0 (All-head (IsRow rows fates) c cs all) (lower_power st.cursor top c.alignment.0 low at) h first.1 in
      rows_stand cs c.alignment.0 first.0 next (All-tail (IsRow rows fates) c cs all) (sorted_tail stands_before stands_weakly c cs up) (all_below_first c cs up) here.1 here.0 first.2

  chunk_stands : (cs : List ChunkRow) (st next : State) → All (IsRow rows fates) cs → IsSortedBy stands_before cs → chunk_placed cs st ≡ Ok next → InPlace st.known → InPlace next.known
  chunk_stands cs st next all up e h = by_chunk (λ (s : State). InPlace s.known) cs st next e
      (λ n at goes. rows_stand cs (largest cs) (record st { cursor = n }) next all up (all_below_largest cs) at.multiple h goes)

pub rows_stand_in_place : (c : Case) (state : State) → IsLaid c state → StandInPlace c.inputs.rows state.known
rows_stand_in_place c state f =
    let rows = c.inputs.rows in
    let fates = fates_of c.commands c.inputs in
    laid_walked c state f (λ z st. StandInPlace rows st.known)
    (record {
      noted = λ z i n st h. stays rows fates st.known (noted_at i n st).known (λ r. other_entry (Dot i) n st.known (Address r) refl) h;
      located = λ n i m st h. h;
      moved = λ s i n e st there low h. h;
      opened = λ i s n m st begins h. stays rows fates st.known (opened_at i s n m st).known (opened_address i s n m st) h;
      placed = λ s q st next own goes h. chunk_stands rows fates (f.order q) st next (λ i d low. (chunk_rows rows fates q (f.order q) (f.ordered q) i d low).0) (f.ordered q).sorted goes h;
      ended = λ s counter regions st inside alone h. stays rows fates st.known (ended_at s counter regions st).known (λ r. other_entry (End s) st.cursor st.known (Address r) refl) h;
    })
    (λ r row a there at. absurd (cc))
