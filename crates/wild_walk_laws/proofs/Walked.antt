-- What holds before the first of nested places and goes over each step holds where all of them are laid out.
use Rattle.std.proofs.Common.{◌≡◌, ◌∙◌, ℕ, zero, suc, ◌+◌, ◌≤◌, false, List, [], ◌∷◌, length, Some, None, Ok, refl, sym, ap, subst, arith}
use Rattle.std.specs.Prelude.{slice_get}
use Rattle.wild_expression_tree.specs.declared.tree.Expression.{Expression}
use Rattle.wild_plan_spec.specs.declared.chunk.Chunk.{Chunk}
use Rattle.wild_plan_spec.specs.declared.place.Where.TheVariants as stand
use Rattle.wild_plan_spec.specs.Case.{Case}
use Rattle.wild_plan_spec.specs.Fates.{section_names}
use Rattle.wild_plan_spec.specs.Fit.{IsLaid}
use Rattle.wild_plan_spec.specs.Ground.{Ground, ground_of}
use Rattle.wild_plan_spec.specs.Orphans.{places_of}
use Rattle.wild_plan_spec.specs.Places.{Place, SetLocation, Wait, Open, Collect, Rows, Close, Discard, Idle, Memory, Headers, Format}
use Rattle.wild_plan_spec.specs.Steps.{State, first_state, chunk_placed, chunk_collected, section_opened, cursor_set, overlapped, leaves_region, section_ended_inside, section_ended_after, section_closed, dot_before, dot_noted, effect, step}
use Rattle.wild_plan_spec.specs.Walk.{Stands}
use Rattle.wild_walk_laws.specs.Nesting.{Zone, Free, Inside, Turns, Nests}
use Rattle.wild_walk_laws.proofs.Nesting.{places_nest}
use Rattle.wild_walk_laws.proofs.Steps.{Begins, noted_at, opened_at, counter_at, cursor_at, ended_at, bind_ok, by_state, by_open, by_end, by_counter, by_cursor}

module _ (ground : Ground) (places : List Place) (Holds : Zone → State → Type 0) where
  -- it goes over each thing that a step does
  pub record Passes : Type 0 where
    -- the location counter at a place becomes known
    pub noted : (z : Zone) (i n : ℕ) (st : State) → Holds z st → Holds z (noted_at i n st)
    -- the location counter is set, and listed
    pub located : (n i m : ℕ) (st : State) → Holds (Free n) st → Holds (Free n) (counter_at i m st)
    -- the cursor of a section is set, and listed
    pub moved : (s i n : ℕ) (e : Expression) (st : State) → slice_get places i ≡ Some (SetLocation (Some s) e) → st.cursor ≤ n → Holds (Inside s) st → Holds (Inside s) (cursor_at i n st)
    -- a section begins
    pub opened : (i s n m : ℕ) (st : State) → Begins ground i s n m st → Holds (Free s) st → Holds (Inside s) (opened_at i s n m st)
    -- the rows of a chunk are placed
    pub placed : (s : ℕ) (q : Chunk) (st next : State) → q.«section» ≡ s → chunk_placed (ground.rows q) st ≡ Ok next → Holds (Inside s) st → Holds (Inside s) next
    -- a section ends, whatever the counters become
    pub ended : (s counter : ℕ) (regions : List ℕ) (st : State) → leaves_region ground s st ≡ false → overlapped ground s st ≡ None → Holds (Inside s) st → Holds (Free (s + 1)) (ended_at s counter regions st)

  module _ (passes : Passes) where
    open passes use {noted, located, moved, opened, placed, ended}

    -- the same zone
    into : (x y : Zone) (st : State) → y ≡ x → Holds x st → Holds y st
    into x y st e h = subst (λ z. Holds z st) (sym e) h

    opens : (i n s : ℕ) (st next : State) → s ≡ n → section_opened ground i s st ≡ Ok next → Holds (Free n) st → Holds (Inside n) next
    opens i n s st next e goes h = by_open (Holds (Inside n)) ground i n st next (subst (λ u. section_opened ground i u st ≡ Ok next) e goes) (λ m k begins. opened i n m k st begins h)

    moves : (i s u : ℕ) (e : Expression) (st next : State) → u ≡ s → slice_get places i ≡ Some (SetLocation (Some u) e) → cursor_set ground i u e st ≡ Ok next → Holds (Inside s) st → Holds (Inside s) next
    moves i s u e st next same there goes h = by_cursor (Holds (Inside s)) ground i u e st next goes
        (λ n value low. moved s i n e st (subst (λ (v : ℕ). slice_get places i ≡ Some (SetLocation (Some v) e)) same there) low h)

    ends : (s u : ℕ) (st next : State) → u ≡ s → section_ended_inside ground u st ≡ Ok next → Holds (Inside s) st → Holds (Free (s + 1)) next
    ends s u st next e goes h =
        by_end (Holds (Free (s + 1))) ground s st next (subst (λ v. section_ended_inside ground v st ≡ Ok next) e goes) (λ inside alone counter regions. ended s counter regions st inside alone h)

    effect_passes : (x : Zone) (p : Place) (y : Zone) (i : ℕ) (st next : State) → slice_get places i ≡ Some p → Turns x p y → effect ground i p st ≡ Ok next → Holds x st → Holds y next
    unfolding effect chunk_collected section_closed section_ended_after
    effect_passes (Free n) (SetLocation None e) y i st next there turn goes h = into (Free n) y next turn (by_counter (Holds (Free n)) ground i e st next goes (λ m value. located n i m st h))
    effect_passes (Free n) (Wait (stand.Outermost s) task) y i st next there turn goes h = into (Free n) y next turn.1 (by_state (Holds (Free n)) st next goes h)
    effect_passes (Free n) (Wait stand.Between task) y i st next there turn goes h = into (Free n) y next turn (by_state (Holds (Free n)) st next goes h)
    effect_passes (Free n) (Collect None m) y i st next there turn goes h = into (Free n) y next turn (by_state (Holds (Free n)) st next goes h)
    effect_passes (Free n) (Discard z) y i st next there turn goes h = into (Free n) y next turn (by_state (Holds (Free n)) st next goes h)
    effect_passes (Free n) Idle y i st next there turn goes h = into (Free n) y next turn (by_state (Holds (Free n)) st next goes h)
    effect_passes (Free n) (Memory regions) y i st next there turn goes h = into (Free n) y next turn (by_state (Holds (Free n)) st next goes h)
    effect_passes (Free n) (Headers headers) y i st next there turn goes h = into (Free n) y next turn (by_state (Holds (Free n)) st next goes h)
    effect_passes (Free n) (Format format) y i st next there turn goes h = into (Free n) y next turn (by_state (Holds (Free n)) st next goes h)
    effect_passes (Free n) (Open s x) y i st next there turn goes h = into (Inside n) y next turn.1 (opens i n s st next turn.0 goes h)
    effect_passes (Inside s) (SetLocation (Some u) e) y i st next there turn goes h = into (Inside s) y next turn.1 (moves i s u e st next turn.0 there goes h)
    effect_passes (Inside s) (Wait (stand.Inside u) task) y i st next there turn goes h = into (Inside s) y next turn.1 (by_state (Holds (Inside s)) st next goes h)
    effect_passes (Inside s) (Collect (Some q) m) y i st next there turn goes h = into (Inside s) y next turn.1 (placed s q st next turn.0 goes h)
    effect_passes (Inside s) (Rows q) y i st next there turn goes h = into (Inside s) y next turn.1 (placed s q st next turn.0 goes h)
    effect_passes (Inside s) Idle y i st next there turn goes h = into (Inside s) y next turn (by_state (Holds (Inside s)) st next goes h)
    effect_passes (Inside s) (Close u None) y i st next there turn goes h = into (Free (s + 1)) y next turn.2 (ends s u st next turn.0 goes h)
    effect_passes (Inside s) (Close u (Some q)) y i st next there turn goes h =
        let first = bind_ok (chunk_placed (ground.rows q) st) (section_ended_inside ground u) next goes in
        into (Free (s + 1)) y next turn.2 (ends s u first.0 next turn.0 first.2 (placed s q st first.0 turn.1 first.1 h))
    effect_passes x p y i st next there turn goes h = absurd turn

    step_passes : (x : Zone) (p : Place) (y : Zone) (i : ℕ) (st next : State) → slice_get places i ≡ Some p → Turns x p y → step ground i p st ≡ Ok next → Holds x st → Holds y next
    unfolding step dot_noted
    step_passes x p y i st next there turn goes h = effect_passes x p y i (dot_noted i p st) next there turn goes (noted x i (dot_before p st) st h)

    module _ (state : State) (s : Stands ground places (length places) state) where
      -- what holds before a place, in the zone from which it leads
      pub record Before (i : ℕ) (p : Place) : Type 0 where
        pub from : Zone
        pub to : Zone
        pub turn : Turns from p to
        pub holds : Holds from (s.before i)

      -- places ps are those from i on, and lead from x to z
      record Rest (ps : List Place) (x z : Zone) (i : ℕ) : Type 0 where
        same : (j : ℕ) → slice_get places (i + j) ≡ slice_get ps j
        whole : i + length ps ≡ length places
        nests : Nests x ps z
        holds : Holds x (s.before i)

      first_there : (p : Place) (ps : List Place) (x z : Zone) (i : ℕ) → Rest (p ∷ ps) x z i → slice_get places i ≡ Some p
      first_there p ps x z i rest = let here : i ≡ i + 0 = omega arith in ap (slice_get places) here ∙ rest.same 0

      rest_after : (p : Place) (ps : List Place) (x z : Zone) (i : ℕ) (rest : Rest (p ∷ ps) x z i) → Rest ps rest.nests.0 z (i + 1)
      rest_after p ps x z i rest =
          let whole = rest.whole in
          let there = first_there p ps x z i rest in
          let goes = s.each i p (omega (arith, whole)) there in
          record {
            same = λ j. let y : i + 1 + j ≡ i + suc j = omega arith in rw y (rest.same (suc j));
            whole = omega (arith, whole);
            nests = rest.nests.2;
            holds = step_passes x p rest.nests.0 i (s.before i) (s.before (i + 1)) there rest.nests.1 goes rest.holds;
          }

      rest_walked : (ps : List Place) (x z : Zone) (i : ℕ) → Rest ps x z i → Holds z state
      rest_walked [] x z i rest =
          let whole = rest.whole in
          let last : i ≡ length places = omega (arith, whole) in
          into x z state rest.nests (subst (Holds x) (ap s.before last ∙ s.last) rest.holds)
      rest_walked (p ∷ ps) x z i rest = rest_walked ps rest.nests.0 z (i + 1) (rest_after p ps x z i rest)

      rest_before : (ps : List Place) (x z : Zone) (i : ℕ) → Rest ps x z i → (j : ℕ) (p : Place) → slice_get ps j ≡ Some p → Before (i + j) p
      rest_before [] x z i rest j p there = absurd (cc)
      rest_before (q ∷ ps) x z i rest zero p there =
          let same : q ≡ p = cc in
          let here : i ≡ i + 0 = omega arith in
          record { from = x; to = rest.nests.0; turn = subst (λ (r : Place). Turns x r rest.nests.0) same rest.nests.1; holds = subst (λ (n : ℕ). Holds x (s.before n)) here rest.holds }
      rest_before (q ∷ ps) x z i rest (suc j) p there =
          let y : i + 1 + j ≡ i + suc j = omega arith in
          subst (λ (n : ℕ). Before n p) y (rest_before ps rest.nests.0 z (i + 1) (rest_after q ps x z i rest) j p there)

      all_rest : (x z : Zone) → Nests x places z → Holds x (first_state ground) → Rest places x z 0
      all_rest x z nests h = record {
        same = λ j. let y : 0 + j ≡ j = omega arith in rw y refl;
        whole = omega arith;
        nests = nests;
        holds = subst (Holds x) (sym s.first) h;
      }

      pub walked : (x z : Zone) → Nests x places z → Holds x (first_state ground) → Holds z state
      walked x z nests h = rest_walked places x z 0 (all_rest x z nests h)

      pub walked_before : (x z : Zone) → Nests x places z → Holds x (first_state ground) → (i : ℕ) (p : Place) → slice_get places i ≡ Some p → Before i p
      walked_before x z nests h i p there =
          let y : 0 + i ≡ i = omega arith in
          subst (λ (n : ℕ). Before n p) y (rest_before places x z 0 (all_rest x z nests h) i p there)

-- over all places of a case
module _ (c : Case) (state : State) (f : IsLaid c state) (Holds : Zone → State → Type 0) where
  abbrev pub LaidPasses : Type 0
  LaidPasses = Passes (ground_of c f.order) (places_of c.commands c.inputs) Holds

  pub laid_walked : LaidPasses → Holds (Free 0) (first_state (ground_of c f.order)) → Holds (Free (length (section_names c.commands c.inputs))) state
  laid_walked passes first =
      walked (ground_of c f.order) (places_of c.commands c.inputs) Holds passes state f.stands (Free 0) (Free (length (section_names c.commands c.inputs))) (places_nest c.commands c.inputs) first

  pub laid_before : (passes : LaidPasses) → Holds (Free 0) (first_state (ground_of c f.order)) → (i : ℕ) (p : Place) → slice_get (places_of c.commands c.inputs) i ≡ Some p
      → Before (ground_of c f.order) (places_of c.commands c.inputs) Holds passes state f.stands i p
  laid_before passes first i p there =
      walked_before (ground_of c f.order) (places_of c.commands c.inputs) Holds passes state f.stands (Free 0) (Free (length (section_names c.commands c.inputs))) (places_nest c.commands c.inputs) first i p there
