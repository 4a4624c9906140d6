-- The definition that counts for a symbol of the script is that of its place.
use Rattle.std.proofs.Common.{◌≡◌, ◌≢◌, ◌∙◌, ℕ, zero, suc, ◌+◌, ◌==◌, ◌⊎◌, Bool, true, false, not, cond, ◌||◌, List, [], ◌∷◌, ◌++◌, Option, Some, None, refl, inl, inr, sym, ap, subst, ⊎_elim, arith}
use Rattle.std.specs.Prelude.{slice_get}
use Rattle.std.specs.List.{list_any, position_from}
use Rattle.std.specs.Option.{option_map}
use Rattle.std.proofs.lemmas.Bool.{eqb-true}
use Rattle.std.proofs.lemmas.List.Folds.{list_any-append}
use Rattle.std.proofs.lemmas.Slice.Eq.{bytes_eq-Decides}
use Rattle.wild_numbering.specs.Numbering.{is_named, number_of}
use Rattle.wild_names.specs.declared.fault.Fault.{Fault}
use Rattle.wild_names.specs.declared.fault.Fault.TheVariants.{DuplicateSymbol}
use Rattle.wild_expression_tree.specs.declared.tree.Expression.{Expression}
use Rattle.wild_script_tree.specs.declared.tree.ProvideSymbolDefinition.{ProvideSymbolDefinition}
use Rattle.wild_value_spec.specs.declared.value.Point.{Point}
use Rattle.wild_value_spec.specs.Scope.{Definition, OfRow, OfScript, definition_at, definition_of}
use Rattle.wild_plan_spec.specs.declared.chunk.Chunk.{Chunk}
use Rattle.wild_plan_spec.specs.declared.chunk.Kept.{Kept}
use Rattle.wild_plan_spec.specs.declared.place.Where.{Where}
use Rattle.wild_plan_spec.specs.declared.row.SymbolRow.{SymbolRow}
use Rattle.wild_plan_spec.specs.Case.{Case}
use Rattle.wild_plan_spec.specs.Checks.{Check, check, failing, name_checks, symbol_name_checks}
use Rattle.wild_plan_spec.specs.Definitions.{SymbolEntry, all_entries, assigned_entries, assigned_entry, definitions_in, entry_names, entry_of, firm_entries, provide_entry, provided_entries, provided_entry, row_chunk, symbol_chunk, table_entries, table_entry}
use Rattle.wild_plan_spec.specs.Fates.{fates_of}
use Rattle.wild_plan_spec.specs.Names.{Name}
use Rattle.wild_plan_spec.specs.Orphans.{places_of}
use Rattle.wild_plan_spec.specs.Places.{Place, Wait, Assign, Provide}
use Rattle.wild_plan_spec.specs.Points.{task_point}
use Rattle.wild_plan_spec.specs.Scopes.{entries_of, scope_of}
use Rattle.wild_plan_spec.specs.Symbols.{is_at}
use Rattle.wild_plan.specs.End.{AreDefined}

-- ---- the first entry of a name

-- what it says
abbrev first : Name → List SymbolEntry → Option Definition
first name [] = None
first name (e ∷ es) = cond (is_named name e.name) (Some e.definition) (first name es)

shift_by : (b : Bool) (n : ℕ) (o q : Option ℕ) → o ≡ option_map suc q → cond b (Some (n + 1)) o ≡ option_map suc (cond b (Some n) q)
shift_by true n o q h = let z : n + 1 ≡ suc n = omega arith in ap Some z
shift_by false n o q h = h

shift : (t : Name → Bool) (n : ℕ) (xs : List Name) → position_from t (n + 1) xs ≡ option_map suc (position_from t n xs)
shift t n [] = refl
shift t n (x ∷ xs) = shift_by (t x) n (position_from t (n + 1 + 1) xs) (position_from t (n + 1) xs) (shift t (n + 1) xs)

behind : (d : Definition) (ds : List Definition) (o : Option ℕ) → definition_at (d ∷ ds) (option_map suc o) ≡ definition_at ds o
behind d ds None = refl
behind d ds (Some i) = refl

counts_by : (b : Bool) (d : Definition) (ds : List Definition) (o : Option ℕ) (q : Option Definition) → definition_at (d ∷ ds) o ≡ q → definition_at (d ∷ ds) (cond b (Some 0) o) ≡ cond b (Some d) q
counts_by true d ds o q h = refl
counts_by false d ds o q h = h

-- the definition that counts is that of the first
first_counts : (name : Name) (es : List SymbolEntry) → definition_at (definitions_in es) (number_of name (entry_names es)) ≡ first name es
first_counts name [] = refl
first_counts name (e ∷ es) =
    counts_by (is_named name e.name) e.definition (definitions_in es) (position_from (is_named name) (0 + 1) (entry_names es)) (first name es)
    (ap (definition_at (e.definition ∷ definitions_in es)) (shift (is_named name) 0 (entry_names es)) ∙ behind e.definition (definitions_in es) (number_of name (entry_names es)) ∙ first_counts name es)

first_left_by : (b : Bool) (c d : Definition) (o q : Option Definition) → (o ≡ Some d → q ≡ Some d) → cond b (Some c) o ≡ Some d → cond b (Some c) q ≡ Some d
first_left_by true c d o q h e = e
first_left_by false c d o q h e = h e

first_left : (name : Name) (d : Definition) (xs ys : List SymbolEntry) → first name xs ≡ Some d → first name (xs ++ ys) ≡ Some d
first_left name d [] ys h = absurd (cc)
first_left name d (x ∷ xs) ys h = first_left_by (is_named name x.name) x.definition d (first name xs) (first name (xs ++ ys)) (first_left name d xs ys) h

-- ---- entries in a list

abbrev Has : SymbolEntry → List SymbolEntry → Type 0
Has e [] = ⊥
Has e (x ∷ xs) = (x ≡ e) ⊎ Has e xs

has_left : (e : SymbolEntry) (xs ys : List SymbolEntry) → Has e xs → Has e (xs ++ ys)
has_left e [] ys h = absurd h
has_left e (x ∷ xs) ys (inl h) = inl h
has_left e (x ∷ xs) ys (inr h) = inr (has_left e xs ys h)

has_right : (e : SymbolEntry) (xs ys : List SymbolEntry) → Has e ys → Has e (xs ++ ys)
has_right e [] ys h = h
has_right e (x ∷ xs) ys h = inr (has_right e xs ys h)

has_either : (e : SymbolEntry) (xs ys : List SymbolEntry) → Has e (xs ++ ys) → Has e xs ⊎ Has e ys
has_either e [] ys h = inr h
has_either e (x ∷ xs) ys (inl h) = inl (inl h)
has_either e (x ∷ xs) ys (inr h) = ⊎_elim (λ k. inl (inr k)) (λ k. inr k) (has_either e xs ys h)

-- what the first entry says, some entry says
abbrev Says : Definition → List SymbolEntry → Type 0
Says d es = (name : Name) × Has (record { name = name; definition = d }) es

says_by : (b : Bool) (e : SymbolEntry) (es : List SymbolEntry) (d : Definition) (o : Option Definition) → (o ≡ Some d → Says d es) → cond b (Some e.definition) o ≡ Some d → Says d (e ∷ es)
says_by true e es d o h k = let same : e.definition ≡ d = cc in (e.name, inl (ap (λ c. record { name = e.name; definition = c }) same))
says_by false e es d o h k = let later = h k in (later.0, inr later.1)

first_says : (name : Name) (es : List SymbolEntry) (d : Definition) → first name es ≡ Some d → Says d es
first_says name [] d h = absurd (cc)
first_says name (e ∷ es) d h = says_by (is_named name e.name) e es d (first name es) (first_says name es d) h

-- ---- names that are checked

head_passes : (b : Bool) (f : Fault) (rest : List Check) → failing (check (not b) f ++ rest) ≡ None → (b ≡ false) × (failing rest ≡ None)
head_passes true f rest h = absurd (cc)
head_passes false f rest h = (refl, h)

or_false : (b c : Bool) → (b || c) ≡ false → (b ≡ false) × (c ≡ false)
or_false true c h = absurd (cc)
or_false false c h = (refl, h)

module _ (name : Name) (d : Definition) where
  abbrev entry : SymbolEntry
  entry = record { name = name; definition = d }

  -- a name that comes later is none of the earlier ones
  not_earlier : (earlier : List Name) (es : List SymbolEntry) → failing (name_checks DuplicateSymbol earlier (entry_names es)) ≡ None → Has entry es → list_any (is_named name) earlier ≡ false
  not_earlier earlier [] h k = absurd k
  not_earlier earlier (e ∷ es) h (inl same) =
      let p = head_passes (list_any (is_named e.name) earlier) (DuplicateSymbol e.name) (name_checks DuplicateSymbol (earlier ++ e.name ∷ []) (entry_names es)) h in
      subst (λ n. list_any (is_named n) earlier ≡ false) (ap (λ (x : SymbolEntry). x.name) same) p.0
  not_earlier earlier (e ∷ es) h (inr later) =
      let p = head_passes (list_any (is_named e.name) earlier) (DuplicateSymbol e.name) (name_checks DuplicateSymbol (earlier ++ e.name ∷ []) (entry_names es)) h in
      (or_false (list_any (is_named name) earlier) (list_any (is_named name) (e.name ∷ []))
      (sym (list_any-append (is_named name) earlier (e.name ∷ [])) ∙ not_earlier (earlier ++ e.name ∷ []) es p.1 later)).0

  -- where no two have the same name, each is the first of its name
  distinct_first : (earlier : List Name) (es : List SymbolEntry) → failing (name_checks DuplicateSymbol earlier (entry_names es)) ≡ None → Has entry es → first name es ≡ Some d
  distinct_first earlier [] h k = absurd k
  distinct_first earlier (e ∷ es) h (inl same) =
      subst (λ (x : SymbolEntry). cond (is_named name x.name) (Some x.definition) (first name es) ≡ Some d) (sym same)
      (ap (λ b. cond b (Some d) (first name es)) ((bytes_eq-Decides name name).1 refl))
  distinct_first earlier (e ∷ es) h (inr later) =
      let p = head_passes (list_any (is_named e.name) earlier) (DuplicateSymbol e.name) (name_checks DuplicateSymbol (earlier ++ e.name ∷ []) (entry_names es)) h in
      let apart = or_false (list_any (is_named name) earlier) (list_any (is_named name) (e.name ∷ []))
      (sym (list_any-append (is_named name) earlier (e.name ∷ [])) ∙ not_earlier (earlier ++ e.name ∷ []) es p.1 later) in
      let other = or_false (is_named name e.name) false apart.1 in
      ap (λ b. cond b (Some e.definition) (first name es)) other.0 ∙ distinct_first (earlier ++ e.name ∷ []) es p.1 later

-- ---- assignments

entry_has : (name : Name) (d : Definition) → name ≢ [] → Has (record { name = name; definition = d }) (entry_of name d)
entry_has [] d h = absurd (h refl)
entry_has (b ∷ bs) d h = inl refl

entry_says : (n name : Name) (said d : Definition) → Has (record { name = n; definition = d }) (entry_of name said) → said ≡ d
entry_says n [] said d h = absurd h
entry_says n (b ∷ bs) said d (inl h) = ap (λ (x : SymbolEntry). x.definition) h
entry_says n (b ∷ bs) said d (inr h) = absurd h

assigned_has : (i : ℕ) (ps : List Place) (j : ℕ) (w : Where) (name : Name) (e : Expression) → slice_get ps j ≡ Some (Wait w (Assign name e)) → name ≢ []
    → Has (record { name = name; definition = OfScript e (task_point (i + j) w e) }) (assigned_entries i ps)
assigned_has i [] j w name e there h = absurd (cc)
assigned_has i (p ∷ ps) zero w name e there h =
    let here : p ≡ Wait w (Assign name e) = cc in
    let z : i + 0 ≡ i = omega arith in
    rw (z, here) (has_left _ (entry_of name (OfScript e (task_point i w e))) (assigned_entries (i + 1) ps) (entry_has name (OfScript e (task_point i w e)) h))
assigned_has i (p ∷ ps) (suc j) w name e there h =
    let z : i + suc j ≡ i + 1 + j = omega arith in
    rw z (has_right _ (assigned_entry i p) (assigned_entries (i + 1) ps) (assigned_has (i + 1) ps j w name e there h))

-- ---- what stands at a place

-- an assignment of the places says so
record Assigned (i : ℕ) (ps : List Place) (d : Definition) : Type 0 where
  at : ℕ
  where_it_stands : Where
  name : Name
  value : Expression
  there : slice_get ps at ≡ Some (Wait where_it_stands (Assign name value))
  says : d ≡ OfScript value (task_point (i + at) where_it_stands value)

-- a PROVIDE of the places says so
record Provided (i : ℕ) (ps : List Place) (d : Definition) : Type 0 where
  at : ℕ
  where_it_stands : Where
  provide : ProvideSymbolDefinition
  there : slice_get ps at ≡ Some (Wait where_it_stands (Provide provide))
  says : d ≡ OfScript provide.value (task_point (i + at) where_it_stands provide.value)

assigned_here : (n : Name) (i : ℕ) (p : Place) (ps : List Place) (d : Definition) → Has (record { name = n; definition = d }) (assigned_entry i p) → Assigned i (p ∷ ps) d
assigned_here n i (Wait w (Assign name e)) ps d h =
    let z : i + 0 ≡ i = omega arith in
    record { at = 0; where_it_stands = w; name = name; value = e; there = refl; says = rw z (sym (entry_says n name (OfScript e (task_point i w e)) d h)) }
assigned_here n i p ps d h = absurd h

assigned_later : (i : ℕ) (p : Place) (ps : List Place) (d : Definition) → Assigned (i + 1) ps d → Assigned i (p ∷ ps) d
assigned_later i p ps d a =
    let z : i + suc a.at ≡ i + 1 + a.at = omega arith in
    record { at = suc a.at; where_it_stands = a.where_it_stands; name = a.name; value = a.value; there = a.there; says = rw z a.says }

assigned_said : (n : Name) (i : ℕ) (ps : List Place) (d : Definition) → Has (record { name = n; definition = d }) (assigned_entries i ps) → Assigned i ps d
assigned_said n i [] d h = absurd h
assigned_said n i (p ∷ ps) d h = ⊎_elim (assigned_here n i p ps d) (λ k. assigned_later i p ps d (assigned_said n (i + 1) ps d k)) (has_either (record { name = n; definition = d }) (assigned_entry i p) (assigned_entries (i + 1) ps) h)

provided_here : (n : Name) (i : ℕ) (p : Place) (ps : List Place) (d : Definition) → Has (record { name = n; definition = d }) (provided_entry i p) → Provided i (p ∷ ps) d
provided_here n i (Wait w (Provide e)) ps d h =
    let z : i + 0 ≡ i = omega arith in
    record { at = 0; where_it_stands = w; provide = e; there = refl; says = rw z (sym (entry_says n e.name (OfScript e.value (task_point i w e.value)) d h)) }
provided_here n i p ps d h = absurd h

provided_later : (i : ℕ) (p : Place) (ps : List Place) (d : Definition) → Provided (i + 1) ps d → Provided i (p ∷ ps) d
provided_later i p ps d a =
    let z : i + suc a.at ≡ i + 1 + a.at = omega arith in
    record { at = suc a.at; where_it_stands = a.where_it_stands; provide = a.provide; there = a.there; says = rw z a.says }

provided_said : (n : Name) (i : ℕ) (ps : List Place) (d : Definition) → Has (record { name = n; definition = d }) (provided_entries i ps) → Provided i ps d
provided_said n i [] d h = absurd h
provided_said n i (p ∷ ps) d h = ⊎_elim (provided_here n i p ps d) (λ k. provided_later i p ps d (provided_said n (i + 1) ps d k)) (has_either (record { name = n; definition = d }) (provided_entry i p) (provided_entries (i + 1) ps) h)

-- ---- symbols of the table

abbrev IsRow : Definition → Type 0
IsRow (OfRow row offset s) = Unit {0}
IsRow (OfScript e p) = ⊥

row_by : (n : Name) (s : SymbolRow) (o : Option (Option Kept)) (d : Definition) → Has (record { name = n; definition = d }) (table_entry s (row_chunk o)) → IsRow d
row_by n s None d h = absurd h
row_by n s (Some None) d h = absurd h
row_by n s (Some (Some k)) d h = subst IsRow (entry_says n s.name (OfRow s.row s.offset k.chunk.«section») d h) tt

row_said : (n : Name) (fates : List (Option Kept)) (ss : List SymbolRow) (d : Definition) → Has (record { name = n; definition = d }) (table_entries fates ss) → IsRow d
row_said n fates [] d h = absurd h
row_said n fates (s ∷ ss) d h = ⊎_elim (row_by n s (slice_get fates s.row) d) (row_said n fates ss d) (has_either (record { name = n; definition = d }) (table_entry s (symbol_chunk fates s)) (table_entries fates ss) h)

-- ---- the definitions of a case

module _ (c : Case) where
  abbrev places : List Place
  places = places_of c.commands c.inputs

  abbrev firm : List SymbolEntry
  firm = firm_entries (fates_of c.commands c.inputs) c.inputs.symbols places

  -- an assignment counts
  pub assignment_counts : failing (symbol_name_checks c) ≡ None → (i : ℕ) (w : Where) (name : Name) (e : Expression) → slice_get places i ≡ Some (Wait w (Assign name e)) → name ≢ []
      → definition_of (scope_of c) name ≡ Some (OfScript e (task_point i w e))
  assignment_counts checked i w name e there named =
      let has = has_right _ (table_entries (fates_of c.commands c.inputs) c.inputs.symbols) (assigned_entries 0 places) (assigned_has 0 places i w name e there named) in
      let z : 0 + i ≡ i = omega arith in
      first_counts name (entries_of c) ∙ first_left name (OfScript e (task_point i w e)) firm (provided_entries 0 places)
      (rw (← z) (distinct_first name (OfScript e (task_point (0 + i) w e)) [] firm checked has))

  module _ (i : ℕ) (w : Where) (d : ProvideSymbolDefinition) (there : slice_get places i ≡ Some (Wait w (Provide d))) where
    not_assigned : (a : Expression) (q : Point) → q.place ≡ i → Assigned 0 places (OfScript a q) → ⊥
    not_assigned a q place h =
        let points : q ≡ task_point (0 + h.at) h.where_it_stands h.value = cc (h.says) in
        let same : 0 + h.at ≡ i = sym (ap (λ (p : Point). p.place) points) ∙ place in
        let z : h.at ≡ i = omega (arith, same) in
        let other = sym (ap (slice_get places) z) ∙ h.there in
        cc (other, there)

    is_provided : (a : Expression) (q : Point) → q.place ≡ i → Provided 0 places (OfScript a q) → OfScript a q ≡ OfScript d.value (task_point i w d.value)
    is_provided a q place h =
        let points : q ≡ task_point (0 + h.at) h.where_it_stands h.provide.value = cc (h.says) in
        let same : 0 + h.at ≡ i = sym (ap (λ (p : Point). p.place) points) ∙ place in
        let z : h.at ≡ i = omega (arith, same) in
        let other = sym (ap (slice_get places) z) ∙ h.there in
        let stands : h.where_it_stands ≡ w = cc (other, there) in
        let provide : h.provide ≡ d = cc (other, there) in
        h.says ∙ rw (same, stands, provide) refl

    said_by : (n : Name) (a : Expression) (q : Point) → q.place ≡ i → Has (record { name = n; definition = OfScript a q }) (entries_of c) → OfScript a q ≡ OfScript d.value (task_point i w d.value)
    said_by n a q place h = ⊎_elim
        (λ k. ⊎_elim (λ r. absurd (row_said n (fates_of c.commands c.inputs) c.inputs.symbols (OfScript a q) r))
        (λ r. absurd (not_assigned a q place (assigned_said n 0 places (OfScript a q) r)))
        (has_either (record { name = n; definition = OfScript a q }) (table_entries (fates_of c.commands c.inputs) c.inputs.symbols) (assigned_entries 0 places) k))
        (λ k. is_provided a q place (provided_said n 0 places (OfScript a q) k))
        (has_either (record { name = n; definition = OfScript a q }) firm (provided_entries 0 places) h)

    provide_by : (o : Option Definition) → definition_of (scope_of c) d.name ≡ o → is_at i o ≡ true → o ≡ Some (OfScript d.value (task_point i w d.value))
    provide_by None e h = absurd (cc)
    provide_by (Some (OfRow row offset s)) e h = absurd (cc)
    provide_by (Some (OfScript a q)) e h =
        let says = first_says d.name (entries_of c) (OfScript a q) (sym (first_counts d.name (entries_of c)) ∙ e) in
        ap Some (said_by says.0 a q (eqb-true q.place i h) says.1)

    -- a PROVIDE counts where the definition that counts is at its place
    pub provide_counts : is_at i (definition_of (scope_of c) d.name) ≡ true → definition_of (scope_of c) d.name ≡ Some (OfScript d.value (task_point i w d.value))
    provide_counts h = provide_by (definition_of (scope_of c) d.name) refl h

  -- each symbol of the places is defined there
  pub are_defined : failing (symbol_name_checks c) ≡ None → AreDefined (scope_of c) places
  are_defined checked i (Wait w (Assign name e)) there = λ named. assignment_counts checked i w name e there named
  are_defined checked i (Wait w (Provide d)) there = λ h. provide_counts i w d there h
  are_defined checked i (Wait w task) there = tt
  are_defined checked i p there = tt
