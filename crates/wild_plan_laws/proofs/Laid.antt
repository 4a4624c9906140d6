-- Where sections and rows lie, and that none overlap, wherever places are laid out.
use Rattle.std.proofs.Common.{◌≡◌, ◌∙◌, ◌⊎◌, ℕ, ◌+◌, ◌%◌, ◌^◌, ◌<◌, ◌≤◌, Bool, true, false, cond, List, [], ◌∷◌, length, Option, Some, None, Ok, refl, sym, ap, subst, inl, inr, ⊎_elim, arith}
use Rattle.std.specs.Prelude.{slice_get}
use Rattle.std.specs.List.{All}
use Rattle.std.specs.Option.{option_map}
use Rattle.std.proofs.lemmas.Bool.{eqb-true}
use Rattle.std.proofs.lemmas.List.{append-nil}
use Rattle.std.proofs.Math.Nat.{zero-mod}
use Rattle.wild_expression_tree.specs.declared.tree.Expression.{Expression}
use Rattle.wild_value_spec.specs.Known.{Known, IsPart, Start, Load, End, Address, Dot, number_at, with_number}
use Rattle.wild_plan_spec.specs.declared.chunk.Chunk.{Chunk}
use Rattle.wild_plan_spec.specs.declared.chunk.ChunkRow.{ChunkRow}
use Rattle.wild_plan_spec.specs.declared.chunk.Kept.{Kept}
use Rattle.wild_plan_spec.specs.declared.row.InputRow.{InputRow}
use Rattle.wild_plan_spec.specs.Definitions.{row_chunk}
use Rattle.wild_plan_spec.specs.Ground.{Ground}
use Rattle.wild_plan_spec.specs.Overlaps.{lowest_sharing}
use Rattle.wild_plan_spec.specs.Places.{Place, SetLocation}
use Rattle.wild_plan_spec.specs.Steps.{State, first_state, row_placed, chunk_placed, is_floating, leaves_region, overlapped}
use Rattle.wild_walk_laws.specs.Nesting.{Zone, Free, Inside}
use Rattle.wild_walk_laws.proofs.Chunked.{IsRow, IsRowOf}
use Rattle.wild_walk_laws.proofs.Entries.{known_number, grown_entry, new_entry, other_entry, entry_is}
use Rattle.wild_walk_laws.proofs.Fresh.{IsFresh, fresh_on, opened_fresh, opened_address, opened_start, opened_load}
use Rattle.wild_walk_laws.proofs.Growing.{Grows, opened_part}
use Rattle.wild_walk_laws.proofs.Steps.{Begins, noted_at, counter_at, cursor_at, opened_at, row_at, ended_at, by_row, by_rows, by_chunk}
use Rattle.wild_walk_laws.proofs.Walked.{Passes}
use Rattle.wild_plan_laws.specs.Holding.{AreWordsIn, RowHolds, LaidSectionStands, Spans, StandsBy}
use Rattle.wild_plan_laws.proofs.Sharing.{sharing_is_lowest}
use Rattle.wild_plan_laws.proofs.Spanned.{AreApart, spans_grow, listed_last, apart_on, one_apart}

-- ---- rows

module _ (rows : List InputRow) (fates : List (Option Kept)) where
  -- row r is kept in section s
  abbrev pub GoesTo : ℕ → ℕ → Type 0
  GoesTo r s = option_map (λ (q : Chunk). q.«section») (row_chunk (slice_get fates r)) ≡ Some s

  pub goes_to : (r : ℕ) (k : Kept) → slice_get fates r ≡ Some (Some k) → GoesTo r k.chunk.«section»
  goes_to r k e = rw e refl

  pub goes_to_one : (r s u : ℕ) → GoesTo r s → GoesTo r u → s ≡ u
  goes_to_one r s u f g = let both : Some s ≡ Some u = sym f ∙ g in cc

  -- row r is kept in section s and lies between two addresses where it stands at a
  pub record Lies (r a s low high : ℕ) : Type 0 where
    pub row : InputRow
    pub there : slice_get rows r ≡ Some row
    pub goes : GoesTo r s
    pub from : low ≤ a
    pub to : a + row.size ≤ high

  lies_below : (r a s low high top : ℕ) → high ≤ top → Lies r a s low high → Lies r a s low top
  lies_below r a s low high top h l = record { row = l.row; there = l.there; goes = l.goes; from = l.from; to = omega (arith, h) }

  -- it lies in a section with a number below n
  pub record LiesBelow (n : ℕ) (known : Known) (r a : ℕ) : Type 0 where
    pub number : ℕ
    pub below : number < n
    pub start : ℕ
    pub end : ℕ
    pub spans : Spans known number start end
    pub lies : Lies r a number start end

  below_grows : (n m : ℕ) (known more : Known) (r a : ℕ) → n ≤ m → IsPart known more → LiesBelow n known r a → LiesBelow m more r a
  below_grows n m known more r a h part l =
      record { number = l.number; below = omega (arith, h); start = l.start; end = l.end; spans = spans_grow known more l.number l.start l.end part l.spans; lies = l.lies }

  -- each row with an address lies in one of the first n sections, or as it is said; no address is one of two rows of a section
  pub record AreWithin (n : ℕ) (Here : ℕ → ℕ → Type 0) (known : Known) : Type 0 where
    pub lie : (r a : ℕ) → known (Address r) ≡ Some a → LiesBelow n known r a ⊎ Here r a
    pub apart : (s p r x : ℕ) → GoesTo p s → GoesTo r s → RowHolds rows known p x → RowHolds rows known r x → p ≡ r

  -- no row has a new address
  abbrev NoNewRow : Known → Known → Type 0
  NoNewRow known more = (r : ℕ) → more (Address r) ≡ known (Address r)

  row_before : (known more : Known) (r x : ℕ) → NoNewRow known more → RowHolds rows more r x → RowHolds rows known r x
  row_before known more r x same h = record { row = h.row; there = h.there; address = h.address; placed = sym (same r) ∙ h.placed; from = h.from; to = h.to }

  within_on : (n m : ℕ) (Here There : ℕ → ℕ → Type 0) (known more : Known) → n ≤ m → IsPart known more → NoNewRow known more
      → ((r a : ℕ) → Here r a → LiesBelow m more r a ⊎ There r a) → AreWithin n Here known → AreWithin m There more
  within_on n m Here There known more low part same on h = record {
    lie = λ r a e. ⊎_elim (λ l. inl (below_grows n m known more r a low part l)) (on r a) (h.lie r a (sym (same r) ∙ e));
    apart = λ s p r x f g one other. h.apart s p r x f g (row_before known more p x same one) (row_before known more r x same other);
  }

-- ---- what holds between sections, and in them

alone_by : (b : Bool) (o : Option ℕ) → cond b None o ≡ None → b ≡ false → o ≡ None
alone_by true o e f = absurd (cc)
alone_by false o e f = e

-- how a section begins says how it stands
stands_by : (ground : Ground) (i s n m : ℕ) (st : State) (b : Bool) → (ground.facts s).floating ≡ b → Begins ground i s n m st → StandsBy (ground.facts s) n m
stands_by ground i s n m st true is begins = record {
  aligned = λ none. ap (λ (k : ℕ). k % 2 ^ (ground.facts s).alignment) (begins.floats none is) ∙ zero-mod (2 ^ (ground.facts s).alignment);
  small = λ none. let zero_is = begins.floats none is in omega (arith, zero_is);
  floats = begins.floats;
  loaded = begins.stays;
}
stands_by ground i s n m st false is begins = record {
  aligned = λ none. (begins.rounds none is).multiple;
  small = λ none. (begins.rounds none is).fits;
  floats = begins.floats;
  loaded = begins.stays;
}

module _ (ground : Ground) (places : List Place) (rows : List InputRow) (fates : List (Option Kept)) where
  -- the first n sections stand, with their rows
  pub record After (n : ℕ) (st : State) : Type 0 where
    pub fresh : IsFresh (Free n) st.known
    pub sections : AreApart ground places n st
    pub within : AreWithin rows fates n (λ r a. ⊥) st.known

  -- so do those before section s, whose rows so far lie below the cursor
  pub record Amid (s : ℕ) (st : State) : Type 0 where
    pub fresh : IsFresh (Inside s) st.known
    pub sections : AreApart ground places s st
    pub start : ℕ
    pub load : ℕ
    pub starts : st.known (Start s) ≡ Some start
    pub loads : st.known (Load s) ≡ Some load
    pub begins : StandsBy (ground.facts s) start load
    pub low : start ≤ st.cursor
    pub high : start < 2 ^ 64 → AreWordsIn places st.locations s → st.cursor < 2 ^ 64
    pub within : AreWithin rows fates s (λ r a. Lies rows fates r a s start st.cursor) st.known

  abbrev pub Stands : Zone → State → Type 0
  Stands (Free n) st = After n st
  Stands (Inside s) st = Amid s st

  pub nothing_after : After 0 (first_state ground)
  nothing_after = record {
    fresh = λ y ahead. refl;
    sections = record { stand = λ s low. absurd (omega (arith, low)); apart = λ s u x low. absurd (omega (arith, low)) };
    within = record { lie = λ r a e. absurd (cc); apart = λ s p r x f g h. let placed = h.placed in absurd (cc) };
  }

  -- it goes on in a section, where more is known, and rows lie below the cursor
  amid_on : (s : ℕ) (st next : State) → Grows st next → IsFresh (Inside s) next.known → st.cursor ≤ next.cursor → (h : Amid s st)
      → (h.start < 2 ^ 64 → AreWordsIn places next.locations s → next.cursor < 2 ^ 64) → AreWithin rows fates s (λ r a. Lies rows fates r a s h.start next.cursor) next.known → Amid s next
  amid_on s st next grows fresh on h high within = record {
    fresh = fresh;
    sections = apart_on ground places s st next grows h.sections;
    start = h.start;
    load = h.load;
    starts = grows.known (Start s) h.start h.starts;
    loads = grows.known (Load s) h.load h.loads;
    begins = h.begins;
    low = let low = h.low in omega (arith, on, low);
    high = high;
    within = within;
  }

  -- more is known, and the same is listed
  knows : (st next : State) → IsPart st.known next.known → next.locations ≡ st.locations → Grows st next
  knows st next part same = record { known = part; locations = ([], same ∙ sym (append-nil st.locations)) }

  noted : (z : Zone) (i n : ℕ) (st : State) → Stands z st → Stands z (noted_at i n st)
  noted (Free m) i n st h =
      let part = grown_entry (Dot i) n st.known in
      record {
        fresh = fresh_on (Free m) (Free m) (Dot i) n st.known (omega arith) (omega arith) h.fresh;
        sections = apart_on ground places m st (noted_at i n st) (knows st (noted_at i n st) part refl) h.sections;
        within = within_on rows fates m m (λ r a. ⊥) (λ r a. ⊥) st.known (noted_at i n st).known (omega arith) part (λ r. other_entry (Dot i) n st.known (Address r) refl) (λ r a l. inr l) h.within;
      }
  noted (Inside s) i n st h =
      let part = grown_entry (Dot i) n st.known in
      amid_on s st (noted_at i n st) (knows st (noted_at i n st) part refl) (fresh_on (Inside s) (Inside s) (Dot i) n st.known (omega arith) (omega arith) h.fresh) (omega arith) h h.high
      (within_on rows fates s s _ (λ r a. Lies rows fates r a s h.start st.cursor) st.known (noted_at i n st).known (omega arith) part (λ r. other_entry (Dot i) n st.known (Address r) refl) (λ r a l. inr l) h.within)

  -- the counter is set
  located : (n i m : ℕ) (st : State) → After n st → After n (counter_at i m st)
  located n i m st h = record {
    fresh = h.fresh;
    sections = apart_on ground places n st (counter_at i m st) (record { known = λ x k e. e; locations = (record { statement = i; address = m } ∷ [], refl) }) h.sections;
    within = h.within;
  }

  -- a section begins
  opened : (i s n m : ℕ) (st : State) → Begins ground i s n m st → After s st → Amid s (opened_at i s n m st)
  opened i s n m st begins h =
      let next = opened_at i s n m st in
      let part = opened_part i s n m st in
      record {
        fresh = opened_fresh i s n m st h.fresh;
        sections = apart_on ground places s st next (knows st next part refl) h.sections;
        start = n;
        load = m;
        starts = opened_start i s n m st h.fresh;
        loads = opened_load i s n m st h.fresh;
        begins = stands_by ground i s n m st (ground.facts s).floating refl begins;
        low = omega arith;
        high = λ small words. small;
        within = within_on rows fates s s (λ r a. ⊥) (λ r a. Lies rows fates r a s n n) st.known next.known (omega arith) part (opened_address i s n m st) (λ r a l. absurd l) h.within;
      }

  -- the rows so far lie below a cursor that went on
  below_on : (s : ℕ) (st : State) (n : ℕ) → st.cursor ≤ n → (h : Amid s st) → AreWithin rows fates s (λ r a. Lies rows fates r a s h.start n) st.known
  below_on s st n on h =
      within_on rows fates s s _ (λ r a. Lies rows fates r a s h.start n) st.known st.known (omega arith) (λ x m e. e) (λ r. refl) (λ r a l. inr (lies_below rows fates r a s h.start st.cursor n on l)) h.within

  -- the cursor is set
  moved : (s i n : ℕ) (e : Expression) (st : State) → slice_get places i ≡ Some (SetLocation (Some s) e) → st.cursor ≤ n → Amid s st → Amid s (cursor_at i n st)
  moved s i n e st there on h =
      amid_on s st (cursor_at i n st) (record { known = λ x k f. f; locations = (record { statement = i; address = n } ∷ [], refl) }) h.fresh on h
      (λ small words. words (length st.locations) (record { statement = i; address = n }) e (listed_last st.locations _) there) (below_on s st n on h)

  -- the cursor goes on
  raised : (s : ℕ) (st : State) (n : ℕ) → st.cursor ≤ n → n < 2 ^ 64 → Amid s st → Amid s (record st { cursor = n })
  raised s st n on high h = amid_on s st (record st { cursor = n }) (knows st (record st { cursor = n }) (λ x m e. e) refl) h.fresh on h (λ small words. high) (below_on s st n on h)

  -- ---- a row is placed

  module _ (s : ℕ) (st : State) (h : Amid s st) (c : ChunkRow) (of : IsRow rows fates c) (own : c.chunk.«section» ≡ s) where
    abbrev placed : Known
    placed = with_number (Address c.row) st.cursor st.known

    goes_here : GoesTo rows fates c.row s
    goes_here = goes_to rows fates c.row of.kept of.fate ∙ ap Some (ap (λ (q : Chunk). q.«section») (sym of.chunk) ∙ own)

    -- an address is known before, or it is that of the new row
    known_or_new : (r a : ℕ) → placed (Address r) ≡ Some a → (st.known (Address r) ≡ Some a) ⊎ ((c.row ≡ r) × (st.cursor ≡ a))
    known_or_new r a e = ⊎_elim (λ old. inl old) (λ new. inr (eqb-true c.row r new.0, new.1)) (entry_is (Address c.row) st.cursor st.known (Address r) a e)

    new_lies : (n r a : ℕ) → st.cursor + c.size ≤ n → c.row ≡ r → st.cursor ≡ a → Lies rows fates r a s h.start n
    new_lies n r a ends same here =
        subst (λ (m : ℕ). Lies rows fates m a s h.start n) same (record { row = of.row; there = of.there; goes = goes_here; from = omega (arith, here); to = omega (arith, here, ends) })

    -- a row of this section that was known before lies below the cursor
    old_below : (r x : ℕ) → GoesTo rows fates r s → RowHolds rows st.known r x → st.cursor ≤ x → ⊥
    old_below r x goes holds high = ⊎_elim
        (λ l. let same = goes_to_one rows fates r l.number s l.lies.goes goes in omega (arith, same))
        (λ l. let both : Some l.row ≡ Some holds.row = sym l.there ∙ holds.there in
        let same : l.row ≡ holds.row = cc in
        let size = ap (λ (row : InputRow). row.size) same in
        omega (arith, high, size))
        (h.within.lie r holds.address holds.placed)

    -- what holds an address held it before, or is the new row
    held_or_new : (r x : ℕ) → RowHolds rows placed r x → RowHolds rows st.known r x ⊎ ((c.row ≡ r) × (st.cursor ≤ x))
    held_or_new r x holds = ⊎_elim
        (λ old. inl (record { row = holds.row; there = holds.there; address = holds.address; placed = old; from = holds.from; to = holds.to }))
        (λ new. inr (new.0, omega arith))
        (known_or_new r holds.address holds.placed)

    -- a row that was known holds none of the addresses from the cursor on
    old_not_new : (u p r x : ℕ) → GoesTo rows fates p u → GoesTo rows fates r u → RowHolds rows st.known p x → c.row ≡ r → st.cursor ≤ x → ⊥
    old_not_new u p r x f g one same high =
        let here : GoesTo rows fates r s = subst (λ (m : ℕ). GoesTo rows fates m s) same goes_here in
        let alike : u ≡ s = goes_to_one rows fates r u s g here in
        old_below p x (subst (GoesTo rows fates p) alike f) one high

    placed_apart : (u p r x : ℕ) → GoesTo rows fates p u → GoesTo rows fates r u → RowHolds rows placed p x → RowHolds rows placed r x → p ≡ r
    placed_apart u p r x f g one other = ⊎_elim
        (λ old. ⊎_elim
        (λ known. h.within.apart u p r x f g old known)
        (λ new. absurd (old_not_new u p r x f g old new.0 new.1))
        (held_or_new r x other))
        (λ new. ⊎_elim
        (λ known. absurd (old_not_new u r p x g f known new.0 new.1))
        (λ both. sym new.0 ∙ both.0)
        (held_or_new r x other))
        (held_or_new p x one)

    placed_amid : (n : ℕ) → st.cursor + c.size ≤ n → n < 2 ^ 64 → Amid s (row_at c n st)
    placed_amid n ends high =
        let part = grown_entry (Address c.row) st.cursor st.known in
        amid_on s st (row_at c n st) (knows st (row_at c n st) part refl) (fresh_on (Inside s) (Inside s) (Address c.row) st.cursor st.known (omega arith) (omega arith) h.fresh) (omega (arith, ends)) h (λ small words. high) (record {
          lie = λ r a e. ⊎_elim
              (λ old. ⊎_elim
              (λ l. inl (below_grows rows fates s s st.known placed r a (omega arith) part l))
              (λ l. inr (lies_below rows fates r a s h.start st.cursor n (omega (arith, ends)) l))
              (h.within.lie r a old))
              (λ new. inr (new_lies n r a ends new.0 new.1))
              (known_or_new r a e);
          apart = placed_apart;
        })

  row_amid : (s : ℕ) (c : ChunkRow) (st next : State) → IsRow rows fates c → c.chunk.«section» ≡ s → Amid s st → row_placed c st ≡ Ok next → Amid s next
  row_amid s c st next of own h e = by_row (Amid s) c st next e (λ size end up sum fits. placed_amid s st h c of own end (omega (arith, sum)) fits)

  pub chunk_amid : (s : ℕ) (q : Chunk) (cs : List ChunkRow) (st next : State) → q.«section» ≡ s → All (IsRowOf rows fates q) cs → chunk_placed cs st ≡ Ok next → Amid s st → Amid s next
  chunk_amid s q cs st next own all e h = by_chunk (Amid s) cs st next e (λ n up goes. by_rows (Amid s) (IsRowOf rows fates q)
      (λ c u v of amid step. row_amid s c u v of.0 (ap (λ (k : Chunk). k.«section») of.1 ∙ own) amid step)
      cs (record st { cursor = n }) next all (raised s st n up.reaches up.fits h) goes)

  -- ---- a section ends

  ends : (s counter : ℕ) (regions : List ℕ) (st : State) → leaves_region ground s st ≡ false → overlapped ground s st ≡ None → Amid s st → After (s + 1) (ended_at s counter regions st)
  unfolding overlapped
  ends s counter regions st inside none h =
      let next = ended_at s counter regions st in
      let part = grown_entry (End s) st.cursor st.known in
      let number = known_number st.known (Start s) h.start h.starts in
      let alone = λ (counted : (ground.facts s).floating ≡ false).
      let lowest = alone_by (ground.facts s).floating (lowest_sharing (is_floating ground) st.known (number_at st.known (Start s)) st.cursor s) none counted in
      (sharing_is_lowest (is_floating ground) st.known h.start st.cursor s).none.0 (ap (λ (n : ℕ). lowest_sharing (is_floating ground) st.known n st.cursor s) (sym number) ∙ lowest) in
      let spans : Spans next.known s h.start st.cursor = record { starts = part (Start s) h.start h.starts; ends = new_entry (End s) st.cursor st.known (h.fresh (End s) (omega arith)) } in
      let own : LaidSectionStands places next s (ground.facts s) = record {
        start = h.start;
        load = h.load;
        end = st.cursor;
        spans = spans;
        loads = part (Load s) h.load h.loads;
        begins = h.begins;
        forward = h.low;
        below = h.high;
      } in
      record {
        fresh = fresh_on (Inside s) (Free (s + 1)) (End s) st.cursor st.known (omega arith) (omega arith) h.fresh;
        sections = one_apart ground places s h.start st.cursor st next (knows st next part refl) alone own spans h.sections;
        within = within_on rows fates s (s + 1) (λ r a. Lies rows fates r a s h.start st.cursor) (λ r a. ⊥) st.known next.known (omega arith) part (λ r. other_entry (End s) st.cursor st.known (Address r) refl)
            (λ r a l. inl (record { number = s; below = omega arith; start = h.start; end = st.cursor; spans = spans; lies = l })) h.within;
      }

  pub stands_passes : ((q : Chunk) → All (IsRowOf rows fates q) (ground.rows q)) → Passes ground places Stands
  stands_passes all = record {
    noted = noted;
    located = located;
    moved = moved;
    opened = opened;
    placed = λ s q st next own goes h. chunk_amid s q (ground.rows q) st next own (all q) goes h;
    ended = ends;
  }
