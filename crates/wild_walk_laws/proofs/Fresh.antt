-- What is not known yet: the numbers of sections that have not begun, or not ended.
use Rattle.std.proofs.Common.{◌≡◌, ◌∙◌, ℕ, ◌+◌, ◌<◌, ◌≤◌, false, List, None, Some, Ok, refl, arith}
use Rattle.std.proofs.lemmas.Bool.{ne_eqb}
use Rattle.wild_value_spec.specs.Known.{Known, Asked, Start, Load, End, Address, Dot, LoadDot, same_asked, with_number}
use Rattle.wild_plan_spec.specs.declared.chunk.ChunkRow.{ChunkRow}
use Rattle.wild_plan_spec.specs.Ground.{Ground}
use Rattle.wild_plan_spec.specs.Places.{Place}
use Rattle.wild_plan_spec.specs.Steps.{State, row_placed, chunk_placed}
use Rattle.wild_walk_laws.specs.Nesting.{Zone, Free, Inside}
use Rattle.wild_walk_laws.proofs.Entries.{new_entry, other_entry}
use Rattle.wild_walk_laws.proofs.Steps.{started_at, opened_at, by_row, by_rows, by_chunk}
use Rattle.wild_walk_laws.proofs.Walked.{Passes}

-- when it becomes known: where its section begins or ends; nothing waits for the rest
abbrev time : Asked → ℕ
time (Start s) = s + s + 1
time (Load s) = s + s + 1
time (End s) = s + s + 2
time x = 0

-- from when on nothing is known
abbrev clock : Zone → ℕ
clock (Free n) = n + n + 1
clock (Inside s) = s + s + 2

abbrev pub IsFresh : Zone → Known → Type 0
IsFresh z known = (x : Asked) → clock z ≤ time x → known x ≡ None

-- what becomes known earlier is another one
earlier_other : (x y : Asked) → time x < time y → same_asked x y ≡ false
earlier_other (Start s) (Start u) low = ne_eqb s u (omega (arith, low))
earlier_other (Load s) (Load u) low = ne_eqb s u (omega (arith, low))
earlier_other (End s) (End u) low = ne_eqb s u (omega (arith, low))
earlier_other (Address s) (Address u) low = absurd (omega (arith, low))
earlier_other (Dot s) (Dot u) low = absurd (omega (arith, low))
earlier_other (LoadDot s) (LoadDot u) low = absurd (omega (arith, low))
earlier_other x y low = refl

-- with one more entry
pub fresh_on : (y z : Zone) (x : Asked) (n : ℕ) (known : Known) → clock y ≤ clock z → time x < clock z → IsFresh y known → IsFresh z (with_number x n known)
fresh_on y z x n known low past h a ahead = other_entry x n known a (earlier_other x a (omega (arith, past, ahead))) ∙ h a (omega (arith, low, ahead))

dot_early : (z : Zone) (i : ℕ) → time (Dot i) < clock z
dot_early (Free n) i = omega arith
dot_early (Inside s) i = omega arith

-- ---- a section begins

module _ (i s n m : ℕ) (st : State) where
  pub opened_fresh : IsFresh (Free s) st.known → IsFresh (Inside s) (opened_at i s n m st).known
  opened_fresh h =
      let begun = fresh_on (Free s) (Inside s) (Start s) n st.known (omega arith) (omega arith) h in
      let started = fresh_on (Inside s) (Inside s) (LoadDot i) n (with_number (Start s) n st.known) (omega arith) (omega arith) begun in
      fresh_on (Inside s) (Inside s) (Load s) m (started_at i s n st).known (omega arith) (omega arith) started

  -- no row has a new address
  pub opened_address : (r : ℕ) → (opened_at i s n m st).known (Address r) ≡ st.known (Address r)
  opened_address r =
      other_entry (Load s) m (started_at i s n st).known (Address r) refl
      ∙ other_entry (LoadDot i) n (with_number (Start s) n st.known) (Address r) refl
      ∙ other_entry (Start s) n st.known (Address r) refl

  module _ (fresh : IsFresh (Free s) st.known) where
    -- the section starts there
    pub opened_start : (opened_at i s n m st).known (Start s) ≡ Some n
    opened_start =
        other_entry (Load s) m (started_at i s n st).known (Start s) refl
        ∙ other_entry (LoadDot i) n (with_number (Start s) n st.known) (Start s) refl
        ∙ new_entry (Start s) n st.known (fresh (Start s) (omega arith))

    -- and is loaded there
    pub opened_load : (opened_at i s n m st).known (Load s) ≡ Some m
    opened_load =
        new_entry (Load s) m (started_at i s n st).known
        (other_entry (LoadDot i) n (with_number (Start s) n st.known) (Load s) refl
        ∙ other_entry (Start s) n st.known (Load s) refl
        ∙ fresh (Load s) (omega arith))

-- ---- all steps

abbrev pub Fresh : Zone → State → Type 0
Fresh z st = IsFresh z st.known

row_fresh : (s : ℕ) (c : ChunkRow) (st next : State) → Fresh (Inside s) st → row_placed c st ≡ Ok next → Fresh (Inside s) next
row_fresh s c st next h e = by_row (Fresh (Inside s)) c st next e (λ size end up sum fits. fresh_on (Inside s) (Inside s) (Address c.row) st.cursor st.known (omega arith) (omega arith) h)

chunk_fresh : (s : ℕ) (cs : List ChunkRow) (st next : State) → chunk_placed cs st ≡ Ok next → Fresh (Inside s) st → Fresh (Inside s) next
chunk_fresh s cs st next e h = by_chunk (Fresh (Inside s)) cs st next e
    (λ n up goes. by_rows (Fresh (Inside s)) (λ c. Unit {0}) (λ c u v q fresh row. row_fresh s c u v fresh row) cs (record st { cursor = n }) next (λ i d low. tt) h goes)

pub fresh_passes : (ground : Ground) (places : List Place) → Passes ground places Fresh
fresh_passes ground places = record {
  noted = λ z i n st h. fresh_on z z (Dot i) n st.known (omega arith) (dot_early z i) h;
  located = λ n i m st h. h;
  moved = λ s i n e st there low h. h;
  opened = λ i s n m st begins h. opened_fresh i s n m st h;
  placed = λ s q st next own goes h. chunk_fresh s (ground.rows q) st next goes h;
  ended = λ s counter regions st inside alone h. fresh_on (Inside s) (Free (s + 1)) (End s) st.cursor st.known (omega arith) (omega arith) h;
}
