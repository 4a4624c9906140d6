-- What steps come to: their numbers, and the state after each.
use Rattle.std.proofs.Common.{◌≡◌, ◌∙◌, ℕ, ◌+◌, ◌-◌, ◌%◌, ◌^◌, ◌<◌, ◌≤◌, nat_lt, Bool, true, false, cond, List, [], ◌∷◌, ◌++◌, Option, None, Some, Result, Ok, Err, refl, sym, ap, subst, arith}
use Rattle.std.specs.List.{All}
use Rattle.std.proofs.lemmas.Bool.{ltb-true, ltb-false}
use Rattle.std.proofs.lemmas.List.Elements.{All-head, All-tail}
use Rattle.std.proofs.Math.Nat.{zero-mod, mod-add-mod}
use Rattle.std.proofs.Math.Pow.{mod-mod-pow}
use Rattle.wild_ids.proofs.Multiples.{is_rounded_up}
use Rattle.wild_ids.specs.Alignment.{rounded_up}
use Rattle.wild_names.specs.declared.fault.Fault.{Fault}
use Rattle.wild_expression_tree.specs.declared.tree.Expression.{Expression}
use Rattle.wild_value_spec.specs.Answer.{◌>>=◌}
use Rattle.wild_value_spec.specs.Known.{Start, Load, End, Address, Dot, LoadDot, with_number}
use Rattle.wild_value_spec.specs.Value.{sum_of, full_value}
use Rattle.wild_plan_spec.specs.declared.chunk.ChunkRow.{ChunkRow}
use Rattle.wild_plan_spec.specs.Chunks.{largest}
use Rattle.wild_plan_spec.specs.Ground.{Ground}
use Rattle.wild_plan_spec.specs.Points.{location_point, start_point, load_point}
use Rattle.wild_plan_spec.specs.Steps.{State, up, row_placed, rows_placed, chunk_placed, counter_in, with_counter, region_in, start_by, start_found, section_started, load_by, load_found, section_loaded, section_begun, section_opened, cursor_set, is_floating, section_ended_by, section_ended, section_closed_by, overlapped, section_ended_alone, leaves_region, section_ended_inside, counter_set}

-- ---- multiples

abbrev pub IsMultiple : ℕ → ℕ → Type 0
IsMultiple n e = n % 2 ^ e ≡ 0

-- a multiple of a power of two is one of each lower power
pub lower_power : (n a b : ℕ) → b ≤ a → IsMultiple n a → IsMultiple n b
lower_power n a b low h =
    let z : a ≡ (a - b) + b = omega (arith, low) in
    let there : n % 2 ^ ((a - b) + b) ≡ 0 = ap (λ (k : ℕ). n % 2 ^ k) (sym z) ∙ h in
    sym (mod-mod-pow n (a - b) b) ∙ ap (λ (k : ℕ). k % 2 ^ b) there ∙ zero-mod (2 ^ b)

pub sum_multiple : (m n e : ℕ) → IsMultiple m e → IsMultiple n e → IsMultiple (m + n) e
sum_multiple m n e h k =
    let z : 0 + n ≡ n = omega arith in
    sym (mod-add-mod m (2 ^ e) n) ∙ ap (λ (i : ℕ). (i + n) % 2 ^ e) h ∙ ap (λ (i : ℕ). i % 2 ^ e) z ∙ k

chosen_ok : (b : Bool) (r : ℕ) (f : Fault) (m : ℕ) → cond b (Ok r) (Err f) ≡ Ok m → (b ≡ true) × (r ≡ m)
chosen_ok true r f m h = (refl, cc)
chosen_ok false r f m h = absurd (cc)

-- a multiple of 2 ^ e from x on, up to 2 ^ 64 - 1
pub record IsUp (x e n : ℕ) : Type 0 where
  pub multiple : IsMultiple n e
  pub reaches : x ≤ n
  pub fits : n < 2 ^ 64

pub up_is : (x e n : ℕ) → up x e ≡ Ok n → IsUp x e n
unfolding up
up_is x e n h =
    let chosen = chosen_ok _ _ _ _ h in
    let rounded = is_rounded_up e x n (sym chosen.1) in
    let fits = ltb-true (rounded_up (2 ^ e) x) (2 ^ 64) chosen.0 in
    record { multiple = rounded.multiple; reaches = rounded.reaches; fits = omega (arith, fits) }

sum_is : (a b n : ℕ) → sum_of a b ≡ Ok n → (n ≡ a + b) × (n < 2 ^ 64)
unfolding sum_of
sum_is a b n h =
    let chosen = chosen_ok _ _ _ _ h in
    let fits = ltb-true (a + b) (2 ^ 64) chosen.0 in
    let same = chosen.1 in
    (sym same, omega (arith, fits, same))

-- ---- states

-- the location counter at place i becomes known
abbrev pub noted_at : ℕ → ℕ → State → State
noted_at i n st = record st { known = with_number (Dot i) n st.known }

-- section s, which place i opens, starts at n
abbrev pub started_at : ℕ → ℕ → ℕ → State → State
started_at i s n st = record st { known = with_number (LoadDot i) n (with_number (Start s) n st.known) }

-- and is loaded at m
abbrev pub opened_at : ℕ → ℕ → ℕ → ℕ → State → State
opened_at i s n m st = record st { cursor = n; known = with_number (Load s) m (started_at i s n st).known }

-- place i sets the counter, or the cursor, to n
abbrev pub counter_at : ℕ → ℕ → State → State
counter_at i n st = record st { counter = n; locations = st.locations ++ record { statement = i; address = n } ∷ [] }

abbrev pub cursor_at : ℕ → ℕ → State → State
cursor_at i n st = record st { cursor = n; locations = st.locations ++ record { statement = i; address = n } ∷ [] }

-- a row stands at the cursor, which goes on to n
abbrev pub row_at : ChunkRow → ℕ → State → State
row_at c n st = record st { cursor = n; known = with_number (Address c.row) st.cursor st.known }

-- section s ends at the cursor, and the counter and those of the regions are these
abbrev pub ended_at : ℕ → ℕ → List ℕ → State → State
ended_at s counter regions st = record st { counter = counter; regions = regions; known = with_number (End s) st.cursor st.known }

-- place i opens section s, which starts at n and is loaded at m
pub record Begins (ground : Ground) (i s n m : ℕ) (st : State) : Type 0 where
  pub starts : (e : Expression) → (ground.facts s).start ≡ Some e → full_value ground.scope i st.known [] e (start_point i) ≡ Ok n
  pub floats : (ground.facts s).start ≡ None → (ground.facts s).floating ≡ true → n ≡ 0
  pub rounds : (ground.facts s).start ≡ None → (ground.facts s).floating ≡ false → IsUp (counter_in (region_in ground s) st) (ground.facts s).alignment n
  pub loads : (e : Expression) → (ground.facts s).load ≡ Some e → full_value ground.scope i (started_at i s n st).known [] e (load_point i) ≡ Ok m
  pub stays : (ground.facts s).load ≡ None → m ≡ n

floated_by : (b : Bool) (r : Result ℕ Fault) (n : ℕ) → cond b (Ok 0) r ≡ Ok n → b ≡ true → n ≡ 0
floated_by true r n h e = let same : 0 ≡ n = cc in sym same
floated_by false r n h e = absurd (cc)

rounded_by : (b : Bool) (x e n : ℕ) → cond b (Ok 0) (up x e) ≡ Ok n → b ≡ false → IsUp x e n
rounded_by true x e n h f = absurd (cc)
rounded_by false x e n h f = up_is x e n h

pub bind_ok : {A B E : Type 0} (x : Result A E) (f : A → Result B E) (y : B) → (x >>= f) ≡ Ok y → (a : A) × (x ≡ Ok a) × (f a ≡ Ok y)
bind_ok (Ok a) f y h = (a, refl, h)
bind_ok (Err e) f y h = absurd (cc)

-- what a step gives has a property, where the state that it says has it
module _ (P : State → Type 0) where
  pub by_state : (st next : State) → ◌≡◌ {A = Result State Fault} (Ok st) (Ok next) → P st → P next
  by_state st next e h = let same : st ≡ next = cc in subst P same h

  pub by_row : (c : ChunkRow) (st next : State) → row_placed c st ≡ Ok next
      → ((size end : ℕ) → IsUp c.size c.alignment.0 size → end ≡ st.cursor + size → end < 2 ^ 64 → P (row_at c end st)) → P next
  unfolding row_placed
  by_row c st next e h =
      let size = bind_ok (up c.size c.alignment.0) _ next e in
      let end = bind_ok (sum_of st.cursor size.0) _ next size.2 in
      let sum = sum_is st.cursor size.0 end.0 end.1 in
      by_state (row_at c end.0 st) next end.2 (h size.0 end.0 (up_is c.size c.alignment.0 size.0 size.1) sum.0 sum.1)

  -- what goes over each of the rows goes over all
  pub by_rows : (Q : ChunkRow → Type 0) → ((c : ChunkRow) (st next : State) → Q c → P st → row_placed c st ≡ Ok next → P next)
      → (cs : List ChunkRow) (st next : State) → All Q cs → P st → rows_placed cs st ≡ Ok next → P next
  by_rows Q over [] st next all h e = by_state st next e h
  by_rows Q over (c ∷ cs) st next all h e =
      let first = bind_ok (row_placed c st) (λ s. rows_placed cs s) next e in
      by_rows Q over cs first.0 next (All-tail Q c cs all) (over c st first.0 (All-head Q c cs all) h first.1) first.2

  pub by_chunk : (cs : List ChunkRow) (st next : State) → chunk_placed cs st ≡ Ok next
      → ((n : ℕ) → IsUp st.cursor (largest cs) n → rows_placed cs (record st { cursor = n }) ≡ Ok next → P next) → P next
  unfolding chunk_placed
  by_chunk cs st next e h =
      let first = bind_ok (up st.cursor (largest cs)) (λ n. rows_placed cs (record st { cursor = n })) next e in
      h first.0 (up_is st.cursor (largest cs) first.0 first.1) first.2

  module _ (ground : Ground) where
    pub by_open : (i s : ℕ) (st next : State) → section_opened ground i s st ≡ Ok next → ((n m : ℕ) → Begins ground i s n m st → P (opened_at i s n m st)) → P next
    unfolding section_opened start_found section_begun section_started load_found section_loaded
    by_open i s st next e h =
        let f = ground.facts s in
        let first = bind_ok (start_by ground i f f.start st) _ next e in
        let n = first.0 in
        let second = bind_ok (load_by ground i f.load n (started_at i s n st)) _ next first.2 in
        let start = λ (o : Option Expression) (same : f.start ≡ o). subst (λ p. start_by ground i f p st ≡ Ok n) same first.1 in
        let load = λ (o : Option Expression) (same : f.load ≡ o). subst (λ p. load_by ground i p n (started_at i s n st) ≡ Ok second.0) same second.1 in
        by_state (opened_at i s n second.0 st) next second.2 (h n second.0 (record {
          starts = λ x same. start (Some x) same;
          floats = λ none b. floated_by f.floating (up (counter_in (region_in ground s) st) f.alignment) n (start None none) b;
          rounds = λ none b. rounded_by f.floating (counter_in (region_in ground s) st) f.alignment n (start None none) b;
          loads = λ x same. load (Some x) same;
          stays = λ none. let same : Ok n ≡ Ok second.0 = load None none in cc;
        }))

    -- whatever the counters become
    abbrev Ended : ℕ → State → Type 0
    Ended s st = (counter : ℕ) (regions : List ℕ) → P (ended_at s counter regions st)

    by_floating : (b : Bool) (s : ℕ) (st next : State) → ◌≡◌ {A = Result State Fault} (Ok (section_ended_by ground b s st)) (Ok next) → Ended s st → P next
    by_floating true s st next e h = by_state (ended_at s st.counter st.regions st) next e (h st.counter st.regions)
    by_floating false s st next e h =
        let regions = with_counter (region_in ground s) st.cursor st.regions in
        by_state (ended_at s st.cursor regions st) next e (h st.cursor regions)

    by_sharing : (s : ℕ) (o : Option ℕ) (st next : State) → section_closed_by ground s o st ≡ Ok next → (o ≡ None → Ended s st) → P next
    unfolding section_ended
    by_sharing s None st next e h = by_floating (is_floating ground s) s st next e (h refl)
    by_sharing s (Some other) st next e h = absurd (cc)

    by_alone : (s : ℕ) (st next : State) → section_ended_alone ground s st ≡ Ok next → (overlapped ground s st ≡ None → Ended s st) → P next
    unfolding section_ended_alone
    by_alone s st next e h = by_sharing s _ st next e h

    by_leaving : (b : Bool) (f : Fault) (s : ℕ) (st next : State) → cond b (Err f) (section_ended_alone ground s st) ≡ Ok next → (b ≡ false → overlapped ground s st ≡ None → Ended s st) → P next
    by_leaving true f s st next e h = absurd (cc)
    by_leaving false f s st next e h = by_alone s st next e (h refl)

    -- it leaves its region no more than it overlaps another section
    pub by_end : (s : ℕ) (st next : State) → section_ended_inside ground s st ≡ Ok next → (leaves_region ground s st ≡ false → overlapped ground s st ≡ None → Ended s st) → P next
    unfolding section_ended_inside
    by_end s st next e h = by_leaving (leaves_region ground s st) _ s st next e h

    pub by_counter : (i : ℕ) (e : Expression) (st next : State) → counter_set ground i e st ≡ Ok next
        → ((n : ℕ) → full_value ground.scope i st.known [] e (location_point i None) ≡ Ok n → P (counter_at i n st)) → P next
    unfolding counter_set
    by_counter i e st next goes h =
        let first = bind_ok (full_value ground.scope i st.known [] e (location_point i None)) _ next goes in
        by_state (counter_at i first.0 st) next first.2 (h first.0 first.1)

    by_move : (b : Bool) (f : Fault) (after next : State) → cond b (Err f) (Ok after) ≡ Ok next → (b ≡ false → P after) → P next
    by_move true f after next e h = absurd (cc)
    by_move false f after next e h = by_state after next e (h refl)

    pub by_cursor : (i s : ℕ) (e : Expression) (st next : State) → cursor_set ground i s e st ≡ Ok next
        → ((n : ℕ) → full_value ground.scope i st.known [] e (location_point i (Some s)) ≡ Ok n → st.cursor ≤ n → P (cursor_at i n st)) → P next
    unfolding cursor_set
    by_cursor i s e st next goes h =
        let first = bind_ok (full_value ground.scope i st.known [] e (location_point i (Some s))) _ next goes in
        by_move (nat_lt first.0 st.cursor) _ (cursor_at i first.0 st) next first.2 (λ low. h first.0 first.1 (ltb-false first.0 st.cursor low))
