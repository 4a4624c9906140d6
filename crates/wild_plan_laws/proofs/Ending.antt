-- Where all places are laid out, nothing is asked in the end that is not.
use Rattle.std.proofs.Common.{◌≡◌, ℕ, zero, suc, ◌+◌, ◌<◌, ◌≤◌, Bool, true, false, List, [], ◌∷◌, length, Option, Some, None, Result, Err, refl, subst, inl, inr, ⊎_elim, arith}
use Rattle.std.specs.Prelude.{slice_get}
use Rattle.wild_numbering.specs.Numbering.{is_named, number_of}
use Rattle.wild_names.specs.declared.fault.Fault.{Fault}
use Rattle.wild_names.specs.declared.fault.Fault.TheVariants.{NotLaidOut}
use Rattle.wild_expression_tree.specs.declared.tree.Expression.{Expression}
use Rattle.wild_value_spec.specs.Known.{Known, Start, Address}
use Rattle.wild_value_spec.specs.Marks.{max_height}
use Rattle.wild_value_spec.specs.Scope.{Definition, OfRow, OfScript, Scope, definition_at, definition_of}
use Rattle.wild_plan_spec.specs.declared.chunk.Kept.{Kept}
use Rattle.wild_plan_spec.specs.declared.placed.PlacedSymbol.{PlacedSymbol}
use Rattle.wild_plan_spec.specs.declared.place.Where.{Where}
use Rattle.wild_plan_spec.specs.declared.place.Where.TheVariants.{Outermost, Between, Inside}
use Rattle.wild_plan_spec.specs.declared.row.SymbolRow.{SymbolRow}
use Rattle.wild_plan_spec.specs.Case.{Case}
use Rattle.wild_plan_spec.specs.Conditions.{task_holds, place_holds, conditions}
use Rattle.wild_plan_spec.specs.Definitions.{SymbolEntry, entry_of, row_chunk, table_entry, table_entries, assigned_entry, assigned_entries, provided_entry, provided_entries, firm_entries, all_entries, entry_names, definitions_in}
use Rattle.wild_plan_spec.specs.Fates.{fates_of, section_names}
use Rattle.wild_plan_spec.specs.Fit.{IsLaid, EndFault}
use Rattle.wild_plan_spec.specs.Names.{Name}
use Rattle.wild_plan_spec.specs.Orphans.{places_of}
use Rattle.wild_plan_spec.specs.Places.{Task, Place, Wait, Assign, Provide, Locate, Check}
use Rattle.wild_plan_spec.specs.Points.{asks_segment, condition_point, dot_at, holder, task_point}
use Rattle.wild_plan_spec.specs.Scopes.{entries_of, scope_of}
use Rattle.wild_plan_spec.specs.Steps.{State}
use Rattle.wild_plan_spec.specs.Symbols.{is_at, unlisted, listed_symbol, assignment_symbol, task_symbol, place_symbol, symbols}
use Rattle.wild_walk_laws.specs.Holding.{IsKnown}
use Rattle.wild_walk_laws.proofs.Having.{Has, has_either}
use Rattle.wild_walk_laws.proofs.Nesting.{behind_all, held_below}
use Rattle.wild_plan_laws.proofs.Apart.{all_is_known, rows_lie_in_sections}
use Rattle.wild_walk_laws.proofs.Kept.{kept_lays}
use Rattle.wild_walk_laws.proofs.Numbered.{position_within}
use Rattle.wild_plan_laws.proofs.Timely.{IsTimely, on, choose, IsDotKnown, IsPointKnown, IsDefinitionKnown, IsScopeKnown, full_timely, assert_timely}

module _ (known : Known) where
  -- what an expression at place i may ask of its place is known, whether it asks for the start of a segment or not
  abbrev IsWhereKnown : ℕ → Where → Type 0
  IsWhereKnown i w = (asks : Bool) → IsPointKnown known (record { place = i; dot = dot_at w asks; «section» = holder w })

  -- the same of the task that stands at place i, if one does
  abbrev IsTaskKnown : ℕ → Place → Type 0
  IsTaskKnown i (Wait w task) = IsWhereKnown i w
  IsTaskKnown i p = Unit {0}

  -- the same of the tasks of a list of places, of which the first has the number i
  abbrev AreTasksKnown : ℕ → List Place → Type 0
  AreTasksKnown i ps = (j : ℕ) (p : Place) → slice_get ps j ≡ Some p → IsTaskKnown (i + j) p

  first_known : (i : ℕ) (p : Place) (ps : List Place) → AreTasksKnown i (p ∷ ps) → IsTaskKnown i p
  first_known i p ps tasks = let z : i + 0 ≡ i = omega arith in subst (λ n. IsTaskKnown n p) z (tasks 0 p refl)

  others_known : (i : ℕ) (p : Place) (ps : List Place) → AreTasksKnown i (p ∷ ps) → AreTasksKnown (i + 1) ps
  others_known i p ps tasks j q there = let z : i + suc j ≡ i + 1 + j = omega arith in subst (λ n. IsTaskKnown n q) z (tasks (suc j) q there)

  -- ---- definitions

  abbrev Says : Definition → SymbolEntry → Type 0
  Says d e = e.definition ≡ d

  said : (es : List SymbolEntry) (i : ℕ) (d : Definition) → slice_get (definitions_in es) i ≡ Some d → Has (Says d) es
  said [] i d there = absurd (cc)
  said (e ∷ es) zero d there = inl (cc)
  said (e ∷ es) (suc i) d there = inr (said es i d there)

  said_at : (es : List SymbolEntry) (o : Option ℕ) (d : Definition) → definition_at (definitions_in es) o ≡ Some d → Has (Says d) es
  said_at es None d there = absurd (cc)
  said_at es (Some i) d there = said es i d there

  entry_says : (name : Name) (said d : Definition) → Has (Says d) (entry_of name said) → said ≡ d
  entry_says [] said d h = absurd h
  entry_says (b ∷ bs) said d (inl h) = h
  entry_says (b ∷ bs) said d (inr h) = absurd h

  script_known : (i : ℕ) (w : Where) (name : Name) (e : Expression) (d : Definition) → IsPointKnown known (task_point i w e) → Has (Says d) (entry_of name (OfScript e (task_point i w e))) → IsDefinitionKnown known d
  script_known i w name e d k h = subst (IsDefinitionKnown known) (entry_says name (OfScript e (task_point i w e)) d h) k

  assigned_known : (i : ℕ) (p : Place) (d : Definition) → IsTaskKnown i p → Has (Says d) (assigned_entry i p) → IsDefinitionKnown known d
  assigned_known i (Wait w (Assign name e)) d k h = script_known i w name e d (k (asks_segment e)) h
  assigned_known i p d k h = absurd h

  provided_known : (i : ℕ) (p : Place) (d : Definition) → IsTaskKnown i p → Has (Says d) (provided_entry i p) → IsDefinitionKnown known d
  provided_known i (Wait w (Provide e)) d k h = script_known i w e.name e.value d (k (asks_segment e.value)) h
  provided_known i p d k h = absurd h

  all_assigned : (i : ℕ) (ps : List Place) (d : Definition) → AreTasksKnown i ps → Has (Says d) (assigned_entries i ps) → IsDefinitionKnown known d
  all_assigned i [] d tasks h = absurd h
  all_assigned i (p ∷ ps) d tasks h = ⊎_elim (assigned_known i p d (first_known i p ps tasks)) (all_assigned (i + 1) ps d (others_known i p ps tasks)) (has_either (Says d) (assigned_entry i p) (assigned_entries (i + 1) ps) h)

  all_provided : (i : ℕ) (ps : List Place) (d : Definition) → AreTasksKnown i ps → Has (Says d) (provided_entries i ps) → IsDefinitionKnown known d
  all_provided i [] d tasks h = absurd h
  all_provided i (p ∷ ps) d tasks h = ⊎_elim (provided_known i p d (first_known i p ps tasks)) (all_provided (i + 1) ps d (others_known i p ps tasks)) (has_either (Says d) (provided_entry i p) (provided_entries (i + 1) ps) h)

  -- a row that is kept, and its section
  abbrev AreRowsKnown : List (Option Kept) → Type 0
  AreRowsKnown fates = (r : ℕ) (k : Kept) → slice_get fates r ≡ Some (Some k) → IsKnown known (Address r) × IsKnown known (Start k.chunk.«section»)

  table_known : (s : SymbolRow) (d : Definition) (o : Option (Option Kept)) → ((k : Kept) → o ≡ Some (Some k) → IsKnown known (Address s.row) × IsKnown known (Start k.chunk.«section»))
      → Has (Says d) (table_entry s (row_chunk o)) → IsDefinitionKnown known d
  table_known s d None row h = absurd h
  table_known s d (Some None) row h = absurd h
  table_known s d (Some (Some k)) row h = subst (IsDefinitionKnown known) (entry_says s.name (OfRow s.row s.offset k.chunk.«section») d h) (row k refl)

  all_tabled : (fates : List (Option Kept)) (ss : List SymbolRow) (d : Definition) → AreRowsKnown fates → Has (Says d) (table_entries fates ss) → IsDefinitionKnown known d
  all_tabled fates [] d rows h = absurd h
  all_tabled fates (s ∷ ss) d rows h = ⊎_elim (table_known s d (slice_get fates s.row) (rows s.row)) (all_tabled fates ss d rows) (has_either (Says d) _ (table_entries fates ss) h)

  entries_known : (fates : List (Option Kept)) (ss : List SymbolRow) (ps : List Place) (d : Definition) → AreRowsKnown fates → AreTasksKnown 0 ps → Has (Says d) (all_entries fates ss ps) → IsDefinitionKnown known d
  entries_known fates ss ps d rows tasks h = ⊎_elim
      (λ firm. ⊎_elim (all_tabled fates ss d rows) (all_assigned 0 ps d tasks) (has_either (Says d) (table_entries fates ss) (assigned_entries 0 ps) firm))
      (all_provided 0 ps d tasks)
      (has_either (Says d) (firm_entries fates ss ps) (provided_entries 0 ps) h)

  -- ---- what is evaluated in the end

  module _ (scope : Scope) (all : IsScopeKnown known scope) where
    abbrev TimelySymbol : Result (Option PlacedSymbol) Fault → Type 0
    TimelySymbol r = IsTimely r

    unlisted_timely : (i : ℕ) (w : Where) (e : Expression) → IsPointKnown known (task_point i w e) → TimelySymbol (unlisted scope known i w e)
    unfolding unlisted
    unlisted_timely i w e k = on (full_timely scope i known all max_height [] e (task_point i w e) k) (λ n. record { timely = λ f. f })

    listed_timely : (i : ℕ) (w : Where) (name : Name) (e : Expression) (hidden : Bool) → IsPointKnown known (task_point i w e) → TimelySymbol (listed_symbol scope known i w name e hidden)
    unfolding listed_symbol
    listed_timely i w name e hidden k = on (full_timely scope i known all max_height (name ∷ []) e (task_point i w e) k) (λ n. record { timely = λ f. f })

    assignment_timely : (i : ℕ) (w : Where) (name : Name) (e : Expression) → IsPointKnown known (task_point i w e) → TimelySymbol (assignment_symbol scope known i w name e)
    assignment_timely i w [] e k = unlisted_timely i w e k
    assignment_timely i w (b ∷ bs) e k = listed_timely i w (b ∷ bs) e false k

    symbol_timely : (i : ℕ) (p : Place) → IsTaskKnown i p → TimelySymbol (place_symbol scope known i p)
    unfolding place_symbol task_symbol
    symbol_timely i (Wait w (Assign name e)) k = assignment_timely i w name e (k (asks_segment e))
    symbol_timely i (Wait w (Provide d)) k = choose (is_at i (definition_of scope d.name)) (listed_timely i w d.name d.value d.hidden (k (asks_segment d.value))) (record { timely = λ f. f })
    symbol_timely i (Wait w (Locate e)) k = unlisted_timely i w e (k (asks_segment e))
    symbol_timely i p k = record { timely = λ f. f }

    symbols_timely : (i : ℕ) (ps : List Place) → AreTasksKnown i ps → IsTimely (symbols scope known i ps)
    symbols_timely i [] tasks = record { timely = λ f. f }
    symbols_timely i (p ∷ ps) tasks = on (symbol_timely i p (first_known i p ps tasks)) (λ s. on (symbols_timely (i + 1) ps (others_known i p ps tasks)) (λ found. record { timely = λ f. f }))

    condition_timely : (i : ℕ) (p : Place) → IsTaskKnown i p → IsTimely (place_holds scope known i p)
    unfolding place_holds task_holds
    condition_timely i (Wait w (Check command)) k = on (assert_timely scope i known all command (condition_point i w) (k false)) (λ x. record { timely = λ f. f })
    condition_timely i p k = record { timely = λ f. f }

    conditions_timely : (i : ℕ) (ps : List Place) → AreTasksKnown i ps → IsTimely (conditions scope known i ps)
    conditions_timely i [] tasks = record { timely = λ f. f }
    conditions_timely i (p ∷ ps) tasks = on (condition_timely i p (first_known i p ps tasks)) (λ u. conditions_timely (i + 1) ps (others_known i p ps tasks))

-- ---- cases

module _ (c : Case) (state : State) (f : IsLaid c state) where
  known_rows : AreRowsKnown state.known (fates_of c.commands c.inputs)
  known_rows r k fate =
      let address = (all_is_known c state f).addresses r k fate in
      let laid = kept_lays c.commands c.inputs r k fate in
      let lies = rows_lie_in_sections c state f r laid.row k laid.there fate address.0 address.1 in
      (address, (lies.start, lies.spans.starts))

  -- behind so many sections the end of the last of them is known
  behind_known : (i s : ℕ) (asks : Bool) → s ≤ length (section_names c.commands c.inputs) → IsDotKnown state.known i (dot_at (Outermost s) asks)
  behind_known i s false low = tt
  behind_known i zero true low = tt
  behind_known i (suc s) true low = (all_is_known c state f).ends s (omega (arith, low))

  where_known : (i : ℕ) (w : Where) (task : Task) → slice_get (places_of c.commands c.inputs) i ≡ Some (Wait w task) → IsWhereKnown state.known i w
  where_known i (Outermost s) task there = λ asks. record { dot = behind_known i s asks (behind_all c.commands c.inputs i s task there); start = tt }
  where_known i Between task there = λ asks. record { dot = (all_is_known c state f).dots i (Wait Between task) there; start = tt }
  where_known i (Inside s) task there = λ asks.
      let all = all_is_known c state f in
      record { dot = all.dots i (Wait (Inside s) task) there; start = all.starts s (held_below c.commands c.inputs i s task there) }

  task_known : (i : ℕ) (p : Place) → slice_get (places_of c.commands c.inputs) i ≡ Some p → IsTaskKnown state.known i p
  task_known i (Wait w task) there = where_known i w task there
  task_known i p there = tt

  known_tasks : AreTasksKnown state.known 0 (places_of c.commands c.inputs)
  known_tasks j p there = let z : j ≡ 0 + j = omega arith in subst (λ n. IsTaskKnown state.known n p) z (task_known j p there)

  known_scope : IsScopeKnown state.known (scope_of c)
  known_scope = record {
    sections = λ name s e.
        let all = all_is_known c state f in
        let within = position_within (is_named name) 0 (section_names c.commands c.inputs) s e in
        let low : s < length (section_names c.commands c.inputs) = omega (arith, within) in
        (all.starts s low, all.loads s low, all.ends s low);
    definitions = λ name d e. entries_known state.known (fates_of c.commands c.inputs) c.inputs.symbols (places_of c.commands c.inputs) d known_rows known_tasks (said_at state.known (entries_of c) (number_of name (entry_names (entries_of c))) d e);
  }

pub end_is_late : (c : Case) (n : ℕ) (x : Name) → EndFault c (NotLaidOut n x) → ⊥
end_is_late c n x end =
    let places = places_of c.commands c.inputs in
    let known = end.state.known in
    let scope = known_scope c end.state end.laid in
    let tasks = known_tasks c end.state end.laid in
    let all = on (symbols_timely known (scope_of c) scope 0 places tasks) (λ found. on (conditions_timely known (scope_of c) scope 0 places tasks) (λ u. record { timely = λ f. f })) in
    let late : IsTimely {A = List PlacedSymbol} (Err (NotLaidOut n x)) = subst IsTimely end.refused all in
    late.timely tt
