-- What is known, and the list of locations, grow from place to place.
use Rattle.std.proofs.Common.{◌≡◌, ◌∙◌, ℕ, zero, suc, ◌+◌, ◌-◌, ◌<◌, ◌≤◌, List, [], ◌∷◌, ◌++◌, length, Option, Some, None, Result, Ok, Err, refl, sym, ap, subst, inl, inr, arith}
use Rattle.std.specs.Prelude.{slice_get}
use Rattle.std.proofs.lemmas.List.{append-nil, append_assoc}
use Rattle.std.proofs.lemmas.Option.{slice_get_within}
use Rattle.wild_names.specs.declared.fault.Fault.{Fault}
use Rattle.wild_expression_tree.specs.declared.tree.Expression.{Expression}
use Rattle.wild_script_tree.specs.declared.tree.Section.{Section}
use Rattle.wild_value_spec.specs.declared.value.Point.{Point}
use Rattle.wild_value_spec.specs.Known.{Known, IsPart, Start, Load, End, Address, Dot, LoadDot, with_number}
use Rattle.wild_value_spec.specs.Marks.{max_height}
use Rattle.wild_value_spec.specs.Scope.{Scope}
use Rattle.wild_value_spec.specs.Value.{full_value}
use Rattle.wild_value_laws.specs.Stable.{Stays}
use Rattle.wild_value_laws.proofs.Stable.{full_values_stay}
use Rattle.wild_plan_spec.specs.declared.chunk.ChunkRow.{ChunkRow}
use Rattle.wild_plan_spec.specs.declared.placed.PlacedLocation.{PlacedLocation}
use Rattle.wild_plan_spec.specs.declared.placed.PlacedSymbol.{PlacedSymbol}
use Rattle.wild_plan_spec.specs.Case.{Case}
use Rattle.wild_plan_spec.specs.Fit.{IsLaid}
use Rattle.wild_plan_spec.specs.Ground.{Ground, ground_of}
use Rattle.wild_plan_spec.specs.Layout.{layout}
use Rattle.wild_plan_spec.specs.Orphans.{places_of}
use Rattle.wild_plan_spec.specs.Places.{Place, SetLocation, Wait, Open, Collect, Rows, Close, Discard, Idle, Memory, Headers, Format}
use Rattle.wild_plan_spec.specs.Points.{location_point}
use Rattle.wild_plan_spec.specs.Scopes.{scope_of}
use Rattle.wild_plan_spec.specs.Settled.{LocationSettles}
use Rattle.wild_plan_spec.specs.Steps.{State, row_placed, rows_placed, chunk_placed, chunk_collected, section_ended_inside, section_ended_after, section_closed, dot_before, dot_noted, effect, step}
use Rattle.wild_plan_spec.specs.Walk.{Stands}
use Rattle.wild_plan_spec.proofs.Standing.{place_at}
use Rattle.wild_walk_laws.specs.Holding.{IsKnown}
use Rattle.wild_walk_laws.proofs.Entries.{grown_entry, known_entry}
use Rattle.wild_walk_laws.proofs.Steps.{started_at, opened_at, counter_at, cursor_at, bind_ok, by_state, by_row, by_rows, by_chunk, by_open, by_end, by_counter, by_cursor}

-- ---- what grows

abbrev pub IsPrefix : List PlacedLocation → List PlacedLocation → Type 0
IsPrefix xs ys = (zs : List PlacedLocation) × (ys ≡ xs ++ zs)

-- the second state knows and lists all that the first one does
pub record Grows (first second : State) : Type 0 where
  pub known : IsPart first.known second.known
  pub locations : IsPrefix first.locations second.locations

whole : (xs : List PlacedLocation) → IsPrefix xs xs
whole xs = ([], sym (append-nil xs))

pub grows_not : (s : State) → Grows s s
grows_not s = record { known = λ x n h. h; locations = whole s.locations }

pub grows_on : (r s u : State) → Grows r s → Grows s u → Grows r u
grows_on r s u f g = record {
  known = λ x n h. g.known x n (f.known x n h);
  locations = (f.locations.0 ++ g.locations.0, g.locations.1 ∙ ap (λ (xs : List PlacedLocation). xs ++ g.locations.0) f.locations.1 ∙ append_assoc r.locations f.locations.0 g.locations.0);
}

-- ---- steps

pub row_grows : (c : ChunkRow) (st next : State) → row_placed c st ≡ Ok next → Grows st next
row_grows c st next e = by_row (Grows st) c st next e (λ size end up sum fits. record { known = grown_entry (Address c.row) st.cursor st.known; locations = whole st.locations })

pub rows_grow : (cs : List ChunkRow) (st next : State) → rows_placed cs st ≡ Ok next → Grows st next
rows_grow cs st next e =
    by_rows (Grows st) (λ c. Unit {0}) (λ c s u q h goes. grows_on st s u h (row_grows c s u goes)) cs st next (λ i d low. tt) (grows_not st) e

pub chunk_grows : (cs : List ChunkRow) (st next : State) → chunk_placed cs st ≡ Ok next → Grows st next
chunk_grows cs st next e =
    by_chunk (Grows st) cs st next e (λ n up goes. let later = rows_grow cs (record st { cursor = n }) next goes in record { known = later.known; locations = later.locations })

pub dot_grows : (i : ℕ) (p : Place) (st : State) → Grows st (dot_noted i p st)
unfolding dot_noted
dot_grows i p st = record { known = grown_entry (Dot i) (dot_before p st) st.known; locations = whole st.locations }

-- what is known before a section begins is known after that
pub started_part : (i s n : ℕ) (st : State) → IsPart st.known (started_at i s n st).known
started_part i s n st x m e = grown_entry (LoadDot i) n (with_number (Start s) n st.known) x m (grown_entry (Start s) n st.known x m e)

pub opened_part : (i s n m : ℕ) (st : State) → IsPart st.known (opened_at i s n m st).known
opened_part i s n m st x k e = grown_entry (Load s) m (started_at i s n st).known x k (started_part i s n st x k e)

module _ (ground : Ground) where
  pub end_grows : (s : ℕ) (st next : State) → section_ended_inside ground s st ≡ Ok next → Grows st next
  end_grows s st next e = by_end (Grows st) ground s st next e (λ inside alone counter regions. record { known = grown_entry (End s) st.cursor st.known; locations = whole st.locations })

  pub effect_grows : (i : ℕ) (p : Place) (st next : State) → effect ground i p st ≡ Ok next → Grows st next
  unfolding effect chunk_collected section_closed section_ended_after
  effect_grows i (SetLocation None e) st next goes =
      by_counter (Grows st) ground i e st next goes (λ n value. record { known = λ x m h. h; locations = (record { statement = i; address = n } ∷ [], refl) })
  effect_grows i (SetLocation (Some s) e) st next goes =
      by_cursor (Grows st) ground i s e st next goes (λ n value low. record { known = λ x m h. h; locations = (record { statement = i; address = n } ∷ [], refl) })
  effect_grows i (Open s x) st next goes = by_open (Grows st) ground i s st next goes (λ n m begins. record { known = opened_part i s n m st; locations = whole st.locations })
  effect_grows i (Collect (Some q) m) st next goes = chunk_grows (ground.rows q) st next goes
  effect_grows i (Rows q) st next goes = chunk_grows (ground.rows q) st next goes
  effect_grows i (Close s None) st next goes = end_grows s st next goes
  effect_grows i (Close s (Some q)) st next goes =
      let first = bind_ok (chunk_placed (ground.rows q) st) (section_ended_inside ground s) next goes in
      grows_on st first.0 next (chunk_grows (ground.rows q) st first.0 first.1) (end_grows s first.0 next first.2)
  effect_grows i (Collect None m) st next goes = by_state (Grows st) st next goes (grows_not st)
  effect_grows i (Wait w task) st next goes = by_state (Grows st) st next goes (grows_not st)
  effect_grows i (Discard x) st next goes = by_state (Grows st) st next goes (grows_not st)
  effect_grows i Idle st next goes = by_state (Grows st) st next goes (grows_not st)
  effect_grows i (Memory regions) st next goes = by_state (Grows st) st next goes (grows_not st)
  effect_grows i (Headers headers) st next goes = by_state (Grows st) st next goes (grows_not st)
  effect_grows i (Format format) st next goes = by_state (Grows st) st next goes (grows_not st)

  pub step_grows : (i : ℕ) (p : Place) (st next : State) → step ground i p st ≡ Ok next → Grows st next
  unfolding step
  step_grows i p st next goes = grows_on st (dot_noted i p st) next (dot_grows i p st) (effect_grows i p (dot_noted i p st) next goes)

  -- the location counter at a place is known after it
  pub dot_known : (i : ℕ) (p : Place) (st next : State) → step ground i p st ≡ Ok next → IsKnown next.known (Dot i)
  unfolding step dot_noted
  dot_known i p st next goes =
      let noted = known_entry (Dot i) (dot_before p st) st.known in
      (noted.0, (effect_grows i p (dot_noted i p st) next goes).known (Dot i) noted.0 noted.1)

  -- so is the start of a section that it opens, as its load address reads it
  pub load_dot_known : (i s : ℕ) (x : Option Section) (st next : State) → step ground i (Open s x) st ≡ Ok next → IsKnown next.known (LoadDot i)
  unfolding step effect
  load_dot_known i s x st next goes =
      let noted = dot_noted i (Open s x) st in
      by_open (λ (u : State). IsKnown u.known (LoadDot i)) ground i s noted next goes (λ n m begins.
      let known = known_entry (LoadDot i) n (with_number (Start s) n noted.known) in
      (known.0, grown_entry (Load s) m (started_at i s n noted).known (LoadDot i) known.0 known.1))

  module _ (places : List Place) (k : ℕ) (state : State) (s : Stands ground places k state) where
    -- so many places on
    later : (n i : ℕ) → i + n ≤ k → Grows (s.before i) (s.before (i + n))
    later zero i low = let z : i + 0 ≡ i = omega arith in rw z (grows_not (s.before i))
    later (suc n) i low =
        let found = place_at places (i + n) (omega (arith, low, s.within)) in
        let goes = s.each (i + n) found.0 (omega (arith, low)) found.1 in
        let z : i + suc n ≡ i + n + 1 = omega arith in
        rw z (grows_on (s.before i) (s.before (i + n)) (s.before (i + n + 1)) (later n i (omega (arith, low))) (step_grows (i + n) found.0 (s.before (i + n)) (s.before (i + n + 1)) goes))

    pub to_end : (i : ℕ) → i ≤ k → Grows (s.before i) state
    to_end i low =
        let z : i + (k - i) ≡ k = omega (arith, low) in
        let there : Grows (s.before i) (s.before k) = subst (λ (n : ℕ). Grows (s.before i) (s.before n)) z (later (k - i) i (omega (arith, low))) in
        subst (Grows (s.before i)) s.last there

-- ---- locations

at_seam : (xs zs : List PlacedLocation) (x : PlacedLocation) → slice_get ((xs ++ x ∷ []) ++ zs) (length xs) ≡ Some x
at_seam [] zs x = refl
at_seam (y ∷ xs) zs x = at_seam xs zs x

stayed : (r s : Result ℕ Fault) (n : ℕ) → r ≡ Ok n → Stays r s → s ≡ Ok n
stayed (Ok m) s n e (inl early) = absurd early
stayed (Ok m) s n e (inr same) = sym same ∙ e
stayed (Err f) s n e h = absurd (cc)

-- the value of an expression at a place is that over what is known in the end
pub worth_stays : (scope : Scope) (i : ℕ) (known more : Known) (e : Expression) (p : Point) (n : ℕ) → IsPart known more → full_value scope i known [] e p ≡ Ok n → full_value scope i more [] e p ≡ Ok n
worth_stays scope i known more e p n part value = stayed _ _ n value (full_values_stay scope i known more part max_height [] e p)

module _ (c : Case) (state : State) (f : IsLaid c state) (found : List PlacedSymbol) where
  -- what is set and listed at a place, where what grows from it on is the end
  set_holds : (i n : ℕ) (s : Option ℕ) (e : Expression) (st next : State) → next.known ≡ st.known → next.locations ≡ st.locations ++ record { statement = i; address = n } ∷ []
      → full_value (scope_of c) i st.known [] e (location_point i s) ≡ Ok n → Grows next state → LocationSettles c state.known (layout c state found) i s e
  set_holds i n s e st next same list value on = record {
    address = n;
    worth = worth_stays (scope_of c) i st.known state.known e (location_point i s) n (subst (λ (k : Known). IsPart k state.known) same on.known) value;
    listed = (
      length st.locations,
      ap (λ (xs : List PlacedLocation). slice_get xs (length st.locations)) (on.locations.1 ∙ ap (λ (xs : List PlacedLocation). xs ++ on.locations.0) list) ∙ at_seam st.locations on.locations.0 _,
    );
  }

  location_holds : (i : ℕ) (s : Option ℕ) (e : Expression) (st next : State) → step (ground_of c f.order) i (SetLocation s e) st ≡ Ok next → Grows next state → LocationSettles c state.known (layout c state found) i s e
  unfolding step effect
  location_holds i None e st next goes =
      let noted = dot_noted i (SetLocation None e) st in
      by_counter (λ (u : State). Grows u state → LocationSettles c state.known (layout c state found) i None e) (ground_of c f.order) i e noted next goes
      (λ n value. set_holds i n None e noted (counter_at i n noted) refl refl value)
  location_holds i (Some s) e st next goes =
      let noted = dot_noted i (SetLocation (Some s) e) st in
      by_cursor (λ (u : State). Grows u state → LocationSettles c state.known (layout c state found) i (Some s) e) (ground_of c f.order) i s e noted next goes
      (λ n value low. set_holds i n (Some s) e noted (cursor_at i n noted) refl refl value)

pub locations_hold : (c : Case) (state : State) → IsLaid c state → (found : List PlacedSymbol)
    → (i : ℕ) (s : Option ℕ) (e : Expression) → slice_get (places_of c.commands c.inputs) i ≡ Some (SetLocation s e) → LocationSettles c state.known (layout c state found) i s e
locations_hold c state f found i s e there =
    let places = places_of c.commands c.inputs in
    let low : i < length places = slice_get_within places i (SetLocation s e) there in
    location_holds c state f found i s e (f.stands.before i) (f.stands.before (i + 1)) (f.stands.each i (SetLocation s e) low there)
    (to_end (ground_of c f.order) places (length places) state f.stands (i + 1) (omega (arith, low)))
