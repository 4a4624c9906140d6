-- What the statements of a plan's script are worth over its finished table.
use Rattle.std.proofs.Common.{◌≡◌, ◌≢◌, ◌∙◌, ℕ, zero, suc, ◌+◌, ◌-◌, ◌==◌, Bool, true, false, cond, List, [], ◌∷◌, ◌++◌, Option, Some, None, Ok, Err, refl, sym, ap, subst, arith}
use Rattle.std.specs.Prelude.{slice_get}
use Rattle.std.specs.Option.{option_to_list}
use Rattle.std.proofs.lemmas.Bool.{eq-eqb}
use Rattle.wild_names.specs.declared.fault.Fault.{Fault}
use Rattle.wild_names.specs.declared.fault.Fault.TheVariants.{AssertFailed}
use Rattle.wild_expression_tree.specs.declared.tree.AssertCommand.{AssertCommand}
use Rattle.wild_expression_tree.specs.declared.tree.Expression.{Expression}
use Rattle.wild_script_tree.specs.declared.tree.ProvideSymbolDefinition.{ProvideSymbolDefinition}
use Rattle.wild_script_tree.specs.declared.tree.Section.{Section}
use Rattle.wild_value_spec.specs.declared.value.Value.{Value}
use Rattle.wild_value_spec.specs.Known.{Known, Start, Load}
use Rattle.wild_value_spec.specs.Marks.{max_height, over}
use Rattle.wild_value_spec.specs.Scope.{Scope, definition_of}
use Rattle.wild_value_spec.specs.Value.{assert_statement, assert_value, full_value, value}
use Rattle.wild_plan_spec.specs.declared.place.Where.{Where}
use Rattle.wild_plan_spec.specs.declared.placed.PlacedSymbol.{PlacedSymbol}
use Rattle.wild_plan_spec.specs.Case.{Case}
use Rattle.wild_plan_spec.specs.Conditions.{conditions, place_holds, task_holds}
use Rattle.wild_plan_spec.specs.Facts.{facts_at, facts_of}
use Rattle.wild_plan_spec.specs.Fates.{fates_of}
use Rattle.wild_plan_spec.specs.Fit.{Fits}
use Rattle.wild_plan_spec.specs.Layout.{Layout, placed_section}
use Rattle.wild_plan_spec.specs.Names.{Name}
use Rattle.wild_plan_spec.specs.Orphans.{places_of}
use Rattle.wild_plan_spec.specs.Places.{Place, SetLocation, Wait, Open, Assign, Provide, Check}
use Rattle.wild_plan_spec.specs.Points.{task_point, condition_point}
use Rattle.wild_plan_spec.specs.Scopes.{scope_of}
use Rattle.wild_plan_spec.specs.Settled.{ConditionSettles, IsListed, IsSettled, LoadSettles, LocationSettles, StartSettles, SymbolSettles}
use Rattle.wild_plan_spec.specs.Symbols.{assignment_symbol, is_at, listed_symbol, place_symbol, script_symbol, symbols, table_symbols, task_symbol}
use Rattle.wild_walk_laws.proofs.Beginning.{sections_begin}
use Rattle.wild_walk_laws.proofs.Entries.{known_number}
use Rattle.wild_walk_laws.proofs.Growing.{locations_hold}
use Rattle.wild_walk_laws.proofs.Nesting.{opened_below}
use Rattle.wild_walk_laws.proofs.SectionFacts.{section_there}
use Rattle.wild_walk_laws.proofs.Steps.{bind_ok}

-- ---- lists

listed_after : {X : Type 0} (x : X) (xs ys : List X) → IsListed x ys → IsListed x (xs ++ ys)
listed_after x [] ys h = h
listed_after x (w ∷ xs) ys h = let later = listed_after x xs ys h in (suc later.0, later.1)

module _ (scope : Scope) (known : Known) where
  -- ---- one place among all

  -- what place i + j lists is listed, where place i is the first
  abbrev Lists : ℕ → Place → List PlacedSymbol → Type 0
  Lists i p found = (s : Option PlacedSymbol) × (place_symbol scope known i p ≡ Ok s) × ((x : PlacedSymbol) → s ≡ Some x → IsListed x found)

  first_lists : (i : ℕ) (p : Place) (s : Option PlacedSymbol) (rest : List PlacedSymbol) → place_symbol scope known i p ≡ Ok s → Lists i p (option_to_list s ++ rest)
  first_lists i p s rest e = (s, e, λ x same. rw same (0, refl))

  symbols_list : (i : ℕ) (ps : List Place) (found : List PlacedSymbol) → symbols scope known i ps ≡ Ok found → (j : ℕ) (p : Place) → slice_get ps j ≡ Some p → Lists (i + j) p found
  symbols_list i [] found e j p there = absurd (cc)
  symbols_list i (q ∷ ps) found e zero p there =
      let first = bind_ok (place_symbol scope known i q) _ found e in
      let second = bind_ok (symbols scope known (i + 1) ps) _ found first.2 in
      let both = second.2 in
      let same : option_to_list first.0 ++ second.0 ≡ found = cc in
      let here : q ≡ p = cc in
      let z : i + 0 ≡ i = omega arith in
      rw (z, ← here, ← same) (first_lists i q first.0 second.0 first.1)
  symbols_list i (q ∷ ps) found e (suc j) p there =
      let first = bind_ok (place_symbol scope known i q) _ found e in
      let second = bind_ok (symbols scope known (i + 1) ps) _ found first.2 in
      let both = second.2 in
      let same : option_to_list first.0 ++ second.0 ≡ found = cc in
      let later = symbols_list (i + 1) ps second.0 second.1 j p there in
      let z : i + suc j ≡ i + 1 + j = omega arith in
      rw (z, ← same) (later.0, later.1, λ x e. listed_after x (option_to_list first.0) second.0 (later.2 x e))

  conditions_hold : (i : ℕ) (ps : List Place) → conditions scope known i ps ≡ Ok tt → (j : ℕ) (p : Place) → slice_get ps j ≡ Some p → place_holds scope known (i + j) p ≡ Ok tt
  conditions_hold i [] e j p there = absurd (cc)
  conditions_hold i (q ∷ ps) e zero p there =
      let first = bind_ok (place_holds scope known i q) (λ u. conditions scope known (i + 1) ps) tt e in
      let here : q ≡ p = cc in
      let z : i + 0 ≡ i = omega arith in
      rw (z, ← here) first.1
  conditions_hold i (q ∷ ps) e (suc j) p there =
      let first = bind_ok (place_holds scope known i q) (λ u. conditions scope known (i + 1) ps) tt e in
      let z : i + suc j ≡ i + 1 + j = omega arith in
      rw z (conditions_hold (i + 1) ps first.2 j p there)

  -- ---- what a place lists, and that its condition is not 0

  assigned_named : (i : ℕ) (w : Where) (name : Name) (e : Expression) → name ≢ [] → assignment_symbol scope known i w name e ≡ listed_symbol scope known i w name e false
  assigned_named i w [] e h = absurd (h refl)
  assigned_named i w (b ∷ bs) e h = refl

  -- a symbol is listed with what its expression is worth
  record Worth (i : ℕ) (w : Where) (name : Name) (e : Expression) (hidden : Bool) (found : List PlacedSymbol) : Type 0 where
    address : ℕ
    worth : full_value scope i known (name ∷ []) e (task_point i w e) ≡ Ok address
    listed : IsListed (script_symbol w name hidden address) found

  listed_worth : (i : ℕ) (w : Where) (name : Name) (e : Expression) (hidden : Bool) (p : Place) (found : List PlacedSymbol)
      → place_symbol scope known i p ≡ listed_symbol scope known i w name e hidden → Lists i p found → Worth i w name e hidden found
  unfolding listed_symbol
  listed_worth i w name e hidden p found is lists =
      let first = bind_ok (full_value scope i known (name ∷ []) e (task_point i w e)) _ lists.0 (sym is ∙ lists.1) in
      let both = first.2 in
      let same : lists.0 ≡ Some (script_symbol w name hidden first.0) = cc in
      record { address = first.0; worth = first.1; listed = lists.2 (script_symbol w name hidden first.0) same }

  nonzero_by : (b : Bool) (x : Value) (f : Fault) (v : Value) → (x.number == 0) ≡ b → cond b (Err f) (Ok (over x.number x)) ≡ Ok v → v.number ≢ 0
  nonzero_by true x f v is e = absurd (cc)
  nonzero_by false x f v is e = λ none.
      let same : over x.number x ≡ v = cc in
      let number : x.number ≡ 0 = ap (λ (u : Value). u.number) same ∙ none in
      let zero_is = eq-eqb x.number 0 number in
      cc

  condition_nonzero : (i : ℕ) (w : Where) (k : AssertCommand) (v : Value) → assert_statement scope i known k (condition_point i w) ≡ Ok v → v.number ≢ 0
  unfolding assert_statement assert_value
  condition_nonzero i w k v e =
      let first = bind_ok (value scope i known (max_height - 1) [] k.expression (condition_point i w)) _ v e in
      nonzero_by (first.0.number == 0) first.0 (AssertFailed (scope.line k.at) k.message) v refl first.2

-- ---- plans

module _ (c : Case) (plan : Layout) (f : Fits c plan) where
  abbrev scope : Scope
  scope = scope_of c

  abbrev known : Known
  known = f.state.known

  abbrev places : List Place
  places = places_of c.commands c.inputs

  final : (symbols scope known 0 places ≡ Ok f.found) × (conditions scope known 0 places ≡ Ok tt)
  final =
      let first = bind_ok (symbols scope known 0 places) _ f.found f.finishes in
      let second = bind_ok (conditions scope known 0 places) (λ u. Ok first.0) f.found first.2 in
      let both = second.2 in
      let same : first.0 ≡ f.found = cc in
      (first.1 ∙ ap Ok same, second.1)

  lists_at : (i : ℕ) (p : Place) → slice_get places i ≡ Some p → Lists scope known i p f.found
  lists_at i p there = let z : 0 + i ≡ i = omega arith in rw (← z) (symbols_list scope known 0 places f.found final.0 i p there)

  symbol_settles : (i : ℕ) (w : Where) (name : Name) (e : Expression) (hidden : Bool) → Worth scope known i w name e hidden f.found → SymbolSettles c known plan i w name e hidden
  symbol_settles i w name e hidden worth = record {
    address = worth.address;
    worth = worth.worth;
    listed = rw f.listed (listed_after (script_symbol w name hidden worth.address) (table_symbols known (fates_of c.commands c.inputs) c.inputs.symbols) f.found worth.listed);
  }

  assignment_settles : (i : ℕ) (w : Where) (name : Name) (e : Expression) → slice_get places i ≡ Some (Wait w (Assign name e)) → name ≢ [] → SymbolSettles c known plan i w name e false
  unfolding place_symbol task_symbol
  assignment_settles i w name e there named =
      symbol_settles i w name e false
      (listed_worth scope known i w name e false (Wait w (Assign name e)) f.found (assigned_named scope known i w name e named) (lists_at i (Wait w (Assign name e)) there))

  chosen_provide : (b : Bool) (i : ℕ) (w : Where) (d : ProvideSymbolDefinition) → b ≡ true
      → cond b (listed_symbol scope known i w d.name d.value d.hidden) (Ok None) ≡ listed_symbol scope known i w d.name d.value d.hidden
  chosen_provide true i w d e = refl
  chosen_provide false i w d e = absurd (cc)

  provide_settles : (i : ℕ) (w : Where) (d : ProvideSymbolDefinition) → slice_get places i ≡ Some (Wait w (Provide d)) → is_at i (definition_of scope d.name) ≡ true
      → SymbolSettles c known plan i w d.name d.value d.hidden
  unfolding place_symbol task_symbol
  provide_settles i w d there counts =
      symbol_settles i w d.name d.value d.hidden
      (listed_worth scope known i w d.name d.value d.hidden (Wait w (Provide d)) f.found (chosen_provide (is_at i (definition_of scope d.name)) i w d counts) (lists_at i (Wait w (Provide d)) there))

  condition_settles : (i : ℕ) (w : Where) (k : AssertCommand) → slice_get places i ≡ Some (Wait w (Check k)) → ConditionSettles c known plan i w k
  unfolding place_holds task_holds
  condition_settles i w k there =
      let z : 0 + i ≡ i = omega arith in
      let all = conditions_hold scope known 0 places final.1 i (Wait w (Check k)) there in
      let holds = rw z at all in
      let found = bind_ok (assert_statement scope i known k (condition_point i w)) (λ x. Ok tt) tt holds in
      record { value = found.0; worth = found.1; holds = condition_nonzero scope known i w k found.0 found.1 }

  location_settles : (i : ℕ) (s : Option ℕ) (e : Expression) → slice_get places i ≡ Some (SetLocation s e) → LocationSettles c known plan i s e
  location_settles i s e there = subst (λ (p : Layout). LocationSettles c f.state.known p i s e) (sym f.listed) (locations_hold c f.state f.laid f.found i s e there)

  -- the section that place i opens is listed
  opened_listed : (i s : ℕ) (x : Option Section) → slice_get places i ≡ Some (Open s x) → slice_get plan.sections s ≡ Some (placed_section known s (facts_at (facts_of c.commands c.inputs) s))
  opened_listed i s x there = ap (λ (p : Layout). slice_get p.sections s) f.listed ∙ section_there c known s (opened_below c.commands c.inputs i s x there)

  start_settles : (i s : ℕ) (x : Option Section) (e : Expression) → slice_get places i ≡ Some (Open s x) → (facts_at (facts_of c.commands c.inputs) s).start ≡ Some e → StartSettles c known plan i s e
  start_settles i s x e there said =
      let begun = sections_begin c f.state f.laid i s x there in
      record {
        placed = placed_section known s (facts_at (facts_of c.commands c.inputs) s);
        listed = opened_listed i s x there;
        worth = begun.start_worth e said ∙ ap Ok (sym (known_number known (Start s) begun.start begun.starts));
      }

  load_settles : (i s : ℕ) (x : Option Section) (e : Expression) → slice_get places i ≡ Some (Open s x) → (facts_at (facts_of c.commands c.inputs) s).load ≡ Some e → LoadSettles c known plan i s e
  load_settles i s x e there said =
      let begun = sections_begin c f.state f.laid i s x there in
      record {
        placed = placed_section known s (facts_at (facts_of c.commands c.inputs) s);
        listed = opened_listed i s x there;
        worth = begun.load_worth e said ∙ ap Ok (sym (known_number known (Load s) begun.load begun.loads));
      }

  pub settles : IsSettled c known plan
  settles = record {
    starts = start_settles;
    loads = load_settles;
    locations = location_settles;
    assignments = assignment_settles;
    provides = provide_settles;
    conditions = condition_settles;
  }
