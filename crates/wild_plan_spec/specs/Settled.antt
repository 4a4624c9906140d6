-- What the statements of a plan's script are worth over its finished table.
use Rattle.std.specs.Prelude.{◌≡◌, ◌≢◌, ℕ, Bool, true, false, List, [], ◌∷◌, Option, Some, Ok, slice_get}
use Rattle.wild_expression_tree.specs.declared.tree.AssertCommand.{AssertCommand}
use Rattle.wild_expression_tree.specs.declared.tree.Expression.{Expression}
use Rattle.wild_script_tree.specs.declared.tree.ProvideSymbolDefinition.{ProvideSymbolDefinition}
use Rattle.wild_script_tree.specs.declared.tree.Section.{Section}
use Rattle.wild_value_spec.specs.declared.value.Point.{Point}
use Rattle.wild_value_spec.specs.declared.value.Value.{Value}
use Rattle.wild_value_spec.specs.Known.{Known}
use Rattle.wild_value_spec.specs.Scope.{definition_of}
use Rattle.wild_value_spec.specs.Value.{assert_statement, full_value}
use Rattle.wild_plan_spec.specs.declared.place.Where.{Where}
use Rattle.wild_plan_spec.specs.declared.placed.PlacedSection.{PlacedSection}
use Rattle.wild_plan_spec.specs.Case.{Case}
use Rattle.wild_plan_spec.specs.Facts.{facts_at, facts_of}
use Rattle.wild_plan_spec.specs.Layout.{Layout}
use Rattle.wild_plan_spec.specs.Names.{Name}
use Rattle.wild_plan_spec.specs.Orphans.{places_of}
use Rattle.wild_plan_spec.specs.Places.{Place, SetLocation, Open, Wait, Assign, Provide, Check}
use Rattle.wild_plan_spec.specs.Points.{location_point, start_point, load_point, task_point, condition_point}
use Rattle.wild_plan_spec.specs.Scopes.{scope_of}
use Rattle.wild_plan_spec.specs.Symbols.{is_at, script_symbol}

-- a list has it
abbrev pub IsListed : {X : Type 0} → X → List X → Type 0
IsListed x xs = (i : ℕ) × (slice_get xs i ≡ Some x)

module _ (c : Case) (known : Known) (plan : Layout) where
  -- the expression of place i is worth n at a point, on a path of symbols, over all that is known in the end
  abbrev pub IsWorth : ℕ → List Name → Expression → Point → ℕ → Type 0
  IsWorth i path e p n = full_value (scope_of c) i known path e p ≡ Ok n

  -- place i
  abbrev pub IsPlace : ℕ → Place → Type 0
  IsPlace i p = slice_get (places_of c.commands c.inputs) i ≡ Some p

  -- the section that place i opens starts at what its start expression is worth
  pub record StartSettles (i s : ℕ) (e : Expression) : Type 0 where
    pub placed : PlacedSection
    pub listed : slice_get plan.sections s ≡ Some placed
    pub worth : IsWorth i [] e (start_point i) placed.start

  -- it is loaded at what its AT clause is worth
  pub record LoadSettles (i s : ℕ) (e : Expression) : Type 0 where
    pub placed : PlacedSection
    pub listed : slice_get plan.sections s ≡ Some placed
    pub worth : IsWorth i [] e (load_point i) placed.load

  -- the location counter that place i sets, or the cursor of the section that it stands in, is listed, and is what its
  -- expression is worth
  pub record LocationSettles (i : ℕ) (s : Option ℕ) (e : Expression) : Type 0 where
    pub address : ℕ
    pub worth : IsWorth i [] e (location_point i s) address
    pub listed : IsListed (record { statement = i; address = address }) plan.locations

  -- the symbol that place i defines is listed, and is what its expression is worth
  pub record SymbolSettles (i : ℕ) (w : Where) (name : Name) (e : Expression) (hidden : Bool) : Type 0 where
    pub address : ℕ
    pub worth : IsWorth i (name ∷ []) e (task_point i w e) address
    pub listed : IsListed (script_symbol w name hidden address) plan.symbols

  -- the condition of place i is not 0
  pub record ConditionSettles (i : ℕ) (w : Where) (command : AssertCommand) : Type 0 where
    pub value : Value
    pub worth : assert_statement (scope_of c) i known command (condition_point i w) ≡ Ok value
    pub holds : value.number ≢ 0

  -- each start expression and each AT clause of a section, each `. =` in SECTIONS, each assignment with a name, each PROVIDE
  -- that counts, and each ASSERT
  pub record IsSettled : Type 0 where
    pub starts : (i s : ℕ) (x : Option Section) (e : Expression) → IsPlace i (Open s x) → (facts_at (facts_of c.commands c.inputs) s).start ≡ Some e → StartSettles i s e
    pub loads : (i s : ℕ) (x : Option Section) (e : Expression) → IsPlace i (Open s x) → (facts_at (facts_of c.commands c.inputs) s).load ≡ Some e → LoadSettles i s e
    pub locations : (i : ℕ) (s : Option ℕ) (e : Expression) → IsPlace i (SetLocation s e) → LocationSettles i s e
    pub assignments : (i : ℕ) (w : Where) (name : Name) (e : Expression) → IsPlace i (Wait w (Assign name e)) → name ≢ [] → SymbolSettles i w name e false
    pub provides : (i : ℕ) (w : Where) (d : ProvideSymbolDefinition) → IsPlace i (Wait w (Provide d)) → is_at i (definition_of (scope_of c) d.name) ≡ true → SymbolSettles i w d.name d.value d.hidden
    pub conditions : (i : ℕ) (w : Where) (command : AssertCommand) → IsPlace i (Wait w (Check command)) → ConditionSettles i w command
