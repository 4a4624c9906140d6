-- What is kept is right, and what is counted is bounded.
use Rattle.std.specs.Prelude.{◌≡◌, ◌≤◌, ℕ, ◌+◌, true, false, List, [], ◌∷◌, length, slice_get, Some, Result, Ok, Err}
use Rattle.wild_names.specs.declared.fault.Fault.{Fault}
use Rattle.wild_value_spec.specs.declared.value.Whole.{Whole}
use Rattle.wild_value_spec.specs.Known.{Known}
use Rattle.wild_value_spec.specs.Marks.{max_height}
use Rattle.wild_value_spec.specs.Scope.{Name, Definition, OfRow, OfScript, Scope}
use Rattle.wild_value_spec.specs.Value as v
use Rattle.wild_memo_laws.specs.declared.slot.Slot.{Slot}
use Rattle.wild_memo_laws.specs.declared.slot.Slot.TheVariants.{Unseen, InWork, Kept}
use Rattle.wild_memo_laws.specs.Nodes.{nodes}
use Rattle.wild_memo_laws.specs.Running.{State, Ran, slot_at}

-- ---- definitions

-- what a definition is worth along a path that holds its name, where so many levels are left
abbrev pub whole : Scope → ℕ → Known → ℕ → List Name → Name → Definition → Result Whole Fault
whole scope statement known levels path name d = v.whole scope statement known (v.value scope statement known levels) path path name d

-- no two names have the same number
abbrev pub IsIndexed : Scope → Type 0
IsIndexed scope = (name other : Name) (i : ℕ) → scope.symbol name ≡ Some i → scope.symbol other ≡ Some i → name ≡ other

-- the definition of this number counts for the name
pub record IsDefined (scope : Scope) (name : Name) (i : ℕ) (d : Definition) : Type 0 where
  pub numbered : scope.symbol name ≡ Some i
  pub placed : slice_get scope.definitions i ≡ Some d

-- ---- what is kept

module _ (scope : Scope) where
  -- no name of the path is kept
  abbrev pub IsApart : List Slot → List Name → Type 0
  IsApart slots path = (other : Name) (i : ℕ) (d : Definition) (w : Whole) → IsDefined scope other i d → slot_at i slots ≡ Kept w → v.is_on other path ≡ false

  -- no name of the path but this one is kept
  abbrev pub IsApartBut : Name → List Slot → List Name → Type 0
  IsApartBut name slots path = (other : Name) (i : ℕ) (d : Definition) (w : Whole) → IsDefined scope other i d → slot_at i slots ≡ Kept w → v.is_on other path ≡ true → other ≡ name

  -- what is kept stays
  abbrev pub Grows : List Slot → List Slot → Type 0
  Grows old new = (name : Name) (i : ℕ) (d : Definition) (w : Whole) → IsDefined scope name i d → slot_at i old ≡ Kept w → slot_at i new ≡ Kept w

  -- the definition is worth this, at each statement and along each path that holds its name and no other that is kept
  abbrev pub IsWorth : Known → List Slot → Name → Definition → Whole → Type 0
  IsWorth known slots name d w = (statement : ℕ) (path : List Name) → v.is_on name path ≡ true → IsApartBut name slots path → whole scope statement known max_height path name d ≡ Ok w

  -- a slot for each definition; what is kept is right; in work is what is on the path
  pub record IsSound (known : Known) (path : List Name) (slots : List Slot) : Type 0 where
    pub size : length slots ≡ length scope.definitions
    pub kept : (name : Name) (i : ℕ) (d : Definition) (w : Whole) → IsDefined scope name i d → slot_at i slots ≡ Kept w → IsWorth known slots name d w
    pub on : (name : Name) (i : ℕ) (d : Definition) → IsDefined scope name i d → v.is_on name path ≡ true → slot_at i slots ≡ InWork
    pub off : (name : Name) (i : ℕ) (d : Definition) → IsDefined scope name i d → slot_at i slots ≡ InWork → v.is_on name path ≡ true

-- ---- what is counted

-- the nodes of a definition; a row has none
abbrev pub definition_nodes : Definition → ℕ
definition_nodes (OfRow row offset s) = 0
definition_nodes (OfScript e p) = nodes e

-- the same, where it is unseen
abbrev pub unseen_nodes : Definition → Slot → ℕ
unseen_nodes d Unseen = definition_nodes d
unseen_nodes d InWork = 0
unseen_nodes d (Kept w) = 0

-- the nodes of the definitions that are unseen
abbrev pub unseen : List Definition → List Slot → ℕ
unseen [] slots = 0
unseen (d ∷ ds) [] = 0
unseen (d ∷ ds) (s ∷ slots) = unseen_nodes d s + unseen ds slots

-- the nodes of a definition that was unseen and is not any more
abbrev pub newly_nodes : Definition → Slot → Slot → ℕ
newly_nodes d Unseen Unseen = 0
newly_nodes d Unseen InWork = definition_nodes d
newly_nodes d Unseen (Kept w) = definition_nodes d
newly_nodes d InWork new = 0
newly_nodes d (Kept w) new = 0

-- the nodes of all that were unseen and are not any more
abbrev pub newly : List Definition → List Slot → List Slot → ℕ
newly [] old new = 0
newly (d ∷ ds) [] new = 0
newly (d ∷ ds) (a ∷ old) [] = 0
newly (d ∷ ds) (a ∷ old) (b ∷ new) = newly_nodes d a b + newly ds old new

-- ---- answers

module _ (scope : Scope) where
  -- a value is the one along each path of which nothing is kept; a fault is that along this path
  abbrev pub Matches : {A : Type 0} → List Slot → List Name → (List Name → Result A Fault) → Result A Fault → Type 0
  Matches slots path plain (Ok a) = (other : List Name) → IsApart scope slots other → plain other ≡ Ok a
  Matches slots path plain (Err f) = plain path ≡ Err f

  -- ticks, for what has so many nodes: at most these and those of the definitions that are kept now; behind a fault at most
  -- these and those of all that were unseen
  abbrev pub Spends : {A : Type 0} → ℕ → State → State → Result A Fault → Type 0
  Spends cost s t (Ok a) = t.ticks + unseen scope.definitions t.slots ≤ s.ticks + unseen scope.definitions s.slots + cost
  Spends cost s t (Err f) = t.ticks ≤ s.ticks + unseen scope.definitions s.slots + cost

  -- what ran along a path answers as the plain reading does, leaves what is kept right, and ticks no oftener
  pub record Agrees {A : Type 0} (known : Known) (path : List Name) (cost : ℕ) (s : State) (plain : List Name → Result A Fault) (ran : Ran A) : Type 0 where
    pub sound : IsSound scope known path ran.state.slots
    pub grows : Grows scope s.slots ran.state.slots
    pub matches : Matches ran.state.slots path plain ran.answer
    pub rises : s.ticks ≤ ran.state.ticks
    pub spends : Spends cost s ran.state ran.answer

-- ---- work that is given up

module _ (scope : Scope) (known : Known) where
  -- work along a path, on what has so many nodes, was given up: what is kept is right, what was kept is, and what is
  -- counted is bounded
  pub record GivesUp (path : List Name) (cost : ℕ) (s t : State) : Type 0 where
    pub sound : IsSound scope known path t.slots
    pub grows : Grows scope s.slots t.slots
    pub rises : s.ticks ≤ t.ticks
    pub most : t.ticks ≤ s.ticks + unseen scope.definitions s.slots + cost

  -- the same along each path along which what was kept was right
  abbrev pub Stopped : ℕ → State → State → Type 0
  Stopped cost s t = (path : List Name) → IsSound scope known path s.slots → GivesUp path cost s t
