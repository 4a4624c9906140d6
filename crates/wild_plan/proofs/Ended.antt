-- Wherever nested places have come, the sections before are those that have ended, and they lie apart.
use Rattle.std.proofs.Common.{◌≡◌, ◌∙◌, ℕ, zero, suc, ◌+◌, Bool, true, false, cond, List, [], ◌∷◌, take, drop, length, Option, Some, None, Ok, refl, sym, ap, subst, arith}
use Rattle.std.specs.Prelude.{slice_get, ⊤}
use Rattle.std.proofs.Math.Seq.{drop-cons}
use Rattle.std.proofs.lemmas.List.{length-take-le}
use Rattle.std.proofs.lemmas.Option.{slice_get_within, get_or_from_slice_get}
use Rattle.wild_value_spec.specs.Known.{Known, IsPart, Start, End, Dot, nothing, number_at}
use Rattle.wild_plan_spec.specs.declared.chunk.ChunkRow.{ChunkRow}
use Rattle.wild_plan_spec.specs.Ground.{Ground}
use Rattle.wild_plan_spec.specs.Overlaps.{lowest_sharing}
use Rattle.wild_plan_spec.specs.declared.place.Where.TheVariants as stand
use Rattle.wild_plan_spec.specs.Places.{Place, SetLocation, Wait, Open, Collect, Rows, Close, Discard, Idle, Memory, Headers, Format}
use Rattle.wild_plan_spec.specs.Steps.{State, first_state, chunk_placed, dot_noted, is_floating, overlapped, step}
use Rattle.wild_plan_spec.specs.Walk.{Stands}
use Rattle.wild_plan_spec.proofs.Standing.{stands_first, stands_more}
use Rattle.wild_walk_laws.specs.Holding.{IsKnown}
use Rattle.wild_walk_laws.specs.Nesting.{Zone, Free, Inside, Turns, Nests}
use Rattle.wild_walk_laws.proofs.Entries.{grown_entry, known_number, new_entry, not_both}
use Rattle.wild_walk_laws.proofs.Fresh.{IsFresh, fresh_passes, opened_start}
use Rattle.wild_walk_laws.proofs.Growing.{chunk_grows, dot_grows, opened_part, step_grows}
use Rattle.wild_walk_laws.proofs.Steps.{noted_at, opened_at, counter_at, cursor_at, ended_at}
use Rattle.wild_walk_laws.proofs.Walked.{Passes, walked}
use Rattle.wild_plan.specs.Taken.{Ends, with_end, noted, AreApart, AreTaken, AreTakenBefore}
use Rattle.wild_plan.proofs.Apart.{apart_on, taken_on, taken_before_on, apart_more, taken_more}

-- so many sections have ended
abbrev count : Zone → ℕ
count (Free n) = n
count (Inside s) = s

-- the open section has begun
abbrev Begun : Zone → Known → Type 0
Begun (Free n) known = ⊤
Begun (Inside s) known = IsKnown known (Start s)

begun_on : (z : Zone) (known more : Known) → IsPart known more → Begun z known → Begun z more
begun_on (Free n) known more part h = tt
begun_on (Inside s) known more part h = (h.0, part (Start s) h.0 h.1)

-- an element of the first k
taken_at : (ps : List Place) (k i : ℕ) (p : Place) → slice_get (take k ps) i ≡ Some p → slice_get ps i ≡ Some p
taken_at [] zero i p there = absurd (cc)
taken_at [] (suc k) i p there = absurd (cc)
taken_at (q ∷ ps) zero i p there = absurd (cc)
taken_at (q ∷ ps) (suc k) zero p there = there
taken_at (q ∷ ps) (suc k) (suc i) p there = taken_at ps k i p there

-- one place more
nests_more : (ps : List Place) (k : ℕ) (x y z : Zone) (p : Place) → slice_get ps k ≡ Some p → Nests x (take k ps) y → Turns y p z → Nests x (take (suc k) ps) z
nests_more [] k x y z p there h turn = absurd (cc)
nests_more (q ∷ ps) zero x y z p there h turn =
    let same : q ≡ p = cc in
    (z, subst (λ r. Turns x r z) (sym same) (subst (λ w. Turns w p z) h turn), refl)
nests_more (q ∷ ps) (suc k) x y z p there h turn = (h.0, h.1, nests_more ps k h.0 y z p there h.2 turn)

module _ (ground : Ground) where
  -- what has ended, and begun, and what is not known yet
  record Ended (z : Zone) (st : State) : Type 0 where
    fresh : IsFresh z st.known
    begun : Begun z st.known
    apart : AreApart (is_floating ground) st.known (count z)

  ended_on : (z : Zone) (st next : State) → IsPart st.known next.known → IsFresh z next.known → Ended z st → Ended z next
  ended_on z st next part fresh h = record {
    fresh = fresh;
    begun = begun_on z st.known next.known part h.begun;
    apart = apart_on (is_floating ground) st.known next.known part (count z) h.apart;
  }

  alone_by : (b : Bool) (o : Option ℕ) → cond b None o ≡ None → b ≡ false → o ≡ None
  alone_by true o e counted = absurd (cc)
  alone_by false o e counted = e

  ends : (s counter : ℕ) (regions : List ℕ) (st : State) → IsFresh (Free (s + 1)) (ended_at s counter regions st).known → overlapped ground s st ≡ None → Ended (Inside s) st → Ended (Free (s + 1)) (ended_at s counter regions st)
  unfolding overlapped
  ends s counter regions st fresh alone h =
      let next = ended_at s counter regions st in
      let part = grown_entry (End s) st.cursor st.known in
      let start = known_number st.known (Start s) h.begun.0 h.begun.1 in
      record {
        fresh = fresh;
        begun = tt;
        apart = apart_more (is_floating ground) st.known next.known part s h.begun.0 st.cursor (part (Start s) h.begun.0 h.begun.1) (new_entry (End s) st.cursor st.known (h.fresh (End s) (omega arith)))
            (λ counted. ap (λ (n : ℕ). lowest_sharing (is_floating ground) st.known n st.cursor s) (sym start) ∙ alone_by (is_floating ground s) (lowest_sharing (is_floating ground) st.known (number_at st.known (Start s)) st.cursor s) alone counted)
            h.apart;
      }

  ended_passes : (places : List Place) → Passes ground places Ended
  ended_passes places =
      let fresh : Passes ground places (λ z st. IsFresh z st.known) = fresh_passes ground places in
      record {
        noted = λ z i n st h. ended_on z st (noted_at i n st) (grown_entry (Dot i) n st.known) (fresh.noted z i n st h.fresh) h;
        located = λ n i m st h. ended_on (Free n) st (counter_at i m st) (λ x k e. e) h.fresh h;
        moved = λ s i n e st there low h. ended_on (Inside s) st (cursor_at i n st) (λ x k g. g) h.fresh h;
        opened = λ i s n m st begins h. record {
          fresh = fresh.opened i s n m st begins h.fresh;
          begun = (n, opened_start i s n m st h.fresh);
          apart = apart_on (is_floating ground) st.known (opened_at i s n m st).known (opened_part i s n m st) s h.apart;
        };
        placed = λ s q st next own goes h. ended_on (Inside s) st next (chunk_grows (ground.rows q) st next goes).known (fresh.placed s q st next own goes h.fresh) h;
        ended = λ s counter regions st inside alone h. ends s counter regions st (fresh.ended s counter regions st inside alone h.fresh) alone h;
      }

  module _ (places : List Place) where
    -- ---- the first places

    -- what stands before place k is what stands after those before it
    stands_before : (k : ℕ) (state : State) → Stands ground places k state → Stands ground (take k places) (length (take k places)) state
    stands_before k state s =
        let whole = length-take-le k places s.within in
        record {
          before = s.before;
          within = omega arith;
          first = s.first;
          each = λ i p low there. s.each i p (omega (arith, low, whole)) (taken_at places k i p there);
          last = ap s.before whole ∙ s.last;
        }

    nothing_apart : AreApart (is_floating ground) nothing 0
    nothing_apart = record { each = λ s low. absurd (omega (arith, low)); apart = λ s u start end other_start other_end low. absurd (omega (arith, low)) }

    ended_before : (k : ℕ) (state : State) (z : Zone) → Stands ground places k state → Nests (Free 0) (take k places) z → Ended z state
    ended_before k state z s nests =
        walked ground (take k places) Ended (ended_passes (take k places)) state (stands_before k state s) (Free 0) z nests
        (record { fresh = λ x low. refl; begun = tt; apart = nothing_apart })

    -- ---- the walk

    -- the first k places are laid out, to there, and these are the ends that are kept
    pub record Ready (k : ℕ) (state : State) (kept : Ends) : Type 0 where
      pub stands : Stands ground places k state
      zone : Zone
      last : ℕ
      passed : Nests (Free 0) (take k places) zone
      nests : Nests zone (drop k places) (Free last)
      taken : AreTaken (is_floating ground) state.known (count zone) kept

    pub ready_first : (last : ℕ) (kept : Ends) → Nests (Free 0) places (Free last) → ((end : ℕ) → kept end ≡ None) → Ready 0 (first_state ground) kept
    ready_first last kept nests none = record {
      stands = stands_first ground places;
      zone = Free 0;
      last = last;
      passed = refl;
      nests = nests;
      taken = record { below = nothing_apart; listed = λ s start end low spans. absurd (omega (arith, low)); only = λ s end there. absurd (not_both (kept end) s (none end) there) };
    }

    nests_from : (k : ℕ) (p : Place) (x z : Zone) → slice_get places k ≡ Some p → Nests x (drop k places) z → Nests x (p ∷ drop (k + 1) places) z
    nests_from k p x z there h =
        let next : suc k ≡ k + 1 = omega arith in
        let left = drop-cons places k p (slice_get_within places k p there) in
        let here = get_or_from_slice_get places k p p there in
        subst (λ ps. Nests x ps z) (left ∙ ap (λ q. q ∷ drop (suc k) places) here ∙ ap (λ n. p ∷ drop n places) next) h

    -- what is kept before a place that ends a section
    ready_by : (x : Zone) (p : Place) (y : Zone) (known : Known) (kept : Ends) → Turns x p y → AreTaken (is_floating ground) known (count x) kept → AreTakenBefore (is_floating ground) known p kept
    ready_by (Inside s) (Close u rest) y known kept turn h = subst (λ n. AreTaken (is_floating ground) known n kept) (sym turn.0) h
    ready_by (Free n) (Close u rest) y known kept turn h = absurd turn
    ready_by x p y known kept turn h = tt

    pub ready_before : (k : ℕ) (p : Place) (state : State) (kept : Ends) → slice_get places k ≡ Some p → Ready k state kept → AreTakenBefore (is_floating ground) state.known p kept
    ready_before k p state kept there h =
        let from = nests_from k p h.zone (Free h.last) there h.nests in
        ready_by h.zone p from.0 state.known kept from.1 h.taken

    -- no section ends at another place
    abbrev Counts : Place → Zone → Zone → Type 0
    Counts (Close s rest) x y = ⊤
    Counts p x y = count y ≡ count x

    counts : (x : Zone) (p : Place) (y : Zone) → Turns x p y → Counts p x y
    counts (Free n) (SetLocation None e) y turn = ap count turn
    counts (Free n) (Wait (stand.Outermost s) task) y turn = ap count turn.1
    counts (Free n) (Wait stand.Between task) y turn = ap count turn
    counts (Free n) (Open s x) y turn = ap count turn.1
    counts (Free n) (Collect None m) y turn = ap count turn
    counts (Free n) (Discard x) y turn = ap count turn
    counts (Free n) Idle y turn = ap count turn
    counts (Free n) (Memory regions) y turn = ap count turn
    counts (Free n) (Headers headers) y turn = ap count turn
    counts (Free n) (Format format) y turn = ap count turn
    counts (Inside s) (SetLocation (Some u) e) y turn = ap count turn.1
    counts (Inside s) (Wait (stand.Inside u) task) y turn = ap count turn.1
    counts (Inside s) (Collect (Some q) m) y turn = ap count turn.1
    counts (Inside s) (Rows q) y turn = ap count turn.1
    counts (Inside s) Idle y turn = ap count turn
    counts (Inside s) (Close u rest) y turn = tt
    counts x p y turn = absurd turn

    module _ (known more : Known) (part : IsPart known more) (kept after : Ends) where
      -- nothing else is kept where no section ends
      as_before : (n m : ℕ) → m ≡ n → ((end : ℕ) → after end ≡ kept end) → AreTaken (is_floating ground) known n kept → AreTaken (is_floating ground) more m after
      as_before n m same goes h =
          let grown = taken_on (is_floating ground) known more part n kept h in
          subst (λ k. AreTaken (is_floating ground) more k after) (sym same)
          (record { below = grown.below; listed = λ s start end low spans. goes end ∙ grown.listed s start end low spans; only = λ s end there. grown.only s end (sym (goes end) ∙ there) })

      taken_after : (x : Zone) (p : Place) (y : Zone) → Turns x p y → Counts p x y → AreApart (is_floating ground) more (count y) → ((end : ℕ) → after end ≡ noted (is_floating ground) more p kept end)
          → AreTaken (is_floating ground) known (count x) kept → AreTaken (is_floating ground) more (count y) after
      taken_after (Inside s) (Close u rest) y turn same apart goes h =
          let here : count y ≡ s + 1 = ap count turn.2 in
          let ends : (end : ℕ) → after end ≡ with_end (is_floating ground) more s kept end = λ end. goes end ∙ ap (λ (v : ℕ). with_end (is_floating ground) more v kept end) turn.0 in
          subst (λ k. AreTaken (is_floating ground) more k after) (sym here)
          (taken_more (is_floating ground) more s (subst (AreApart (is_floating ground) more) here apart) kept after (taken_on (is_floating ground) known more part s kept h) ends)
      taken_after (Free n) (Close u rest) y turn same apart goes h = absurd turn
      taken_after x p y turn same apart goes h = as_before (count x) (count y) same goes h

    pub ready_more : (k : ℕ) (p : Place) (state next : State) (kept after : Ends) → slice_get places k ≡ Some p → Ready k state kept → step ground k p state ≡ Ok next
        → ((end : ℕ) → after end ≡ noted (is_floating ground) next.known p kept end) → Ready (k + 1) next after
    ready_more k p state next kept after there h goes ends =
        let from = nests_from k p h.zone (Free h.last) there h.nests in
        let next_one : suc k ≡ k + 1 = omega arith in
        let passed = subst (λ n. Nests (Free 0) (take n places) from.0) next_one (nests_more places k (Free 0) h.zone from.0 p there h.passed from.1) in
        let stands = stands_more ground places k state next p h.stands there goes in
        let ended = ended_before (k + 1) next from.0 stands passed in
        record {
          stands = stands;
          zone = from.0;
          last = h.last;
          passed = passed;
          nests = from.2;
          taken = taken_after state.known next.known (step_grows ground k p state next goes).known kept after h.zone p from.0 from.1 (counts h.zone p from.0 from.1) ended.apart ends h.taken;
        }

-- ---- a section that does not float

module _ (ground : Ground) (s : ℕ) (st : State) where
  -- it must not overlap the one that is found from its start on
  pub overlapped_from : (start : ℕ) (found : Option ℕ) → is_floating ground s ≡ false → start ≡ number_at st.known (Start s)
      → found ≡ lowest_sharing (is_floating ground) st.known start st.cursor s → found ≡ overlapped ground s st
  unfolding overlapped
  overlapped_from start found counted here e =
      rw counted (e ∙ ap (λ (n : ℕ). lowest_sharing (is_floating ground) st.known n st.cursor s) here)

-- ---- in a step

module _ (floating : ℕ → Bool) (st next : State) (kept : Ends) where
  -- what is kept before a place is kept once its location counter is known
  pub dot_taken : (i : ℕ) (p : Place) → next ≡ dot_noted i p st → AreTakenBefore floating st.known p kept → AreTakenBefore floating next.known p kept
  dot_taken i p e h = taken_before_on floating st.known next.known (subst (λ (u : State). IsPart st.known u.known) (sym e) (dot_grows i p st).known) p kept h

  -- and once the rest of a section is placed
  pub chunk_taken : (s : ℕ) (rows : List ChunkRow) → chunk_placed rows st ≡ Ok next → AreTaken floating st.known s kept → AreTaken floating next.known s kept
  chunk_taken s rows e h = taken_on floating st.known next.known (chunk_grows rows st next e).known s kept h
