-- What a relation between two sides has to meet, so that it holds between the values that both read.
use Rattle.std.specs.Prelude.{◌≡◌, ℕ, List, Some, Result, Err}
use Rattle.std.specs.Option.{is_some}
use Rattle.wild_names.specs.declared.fault.Fault.{Fault}
use Rattle.wild_names.specs.declared.fault.Fault.TheVariants.{NotLaidOut}
use Rattle.wild_names.specs.declared.segment_name.SegmentName.{SegmentName}
use Rattle.wild_value_spec.specs.declared.value.Value.{Value}
use Rattle.wild_value_spec.specs.Answer.{◌>>=◌, or_fault}
use Rattle.wild_value_spec.specs.Known.{Known, Asked}
use Rattle.wild_value_spec.specs.Scope.{Name, Definition, Scope, definition_of}
use Rattle.wild_value_spec.specs.Value.{is_on}

-- a relation between what two sides answer
abbrev pub Relation : Type 1
Relation = (A : Type 0) → Result A Fault → Result A Fault → Type 0

-- it holds of an answer and itself, and goes on through a step
pub record Passes (R : Relation) : Type 1 where
  pub same : {A : Type 0} (r : Result A Fault) → R A r r
  pub on : {A B : Type 0} {r s : Result A Fault} {f g : A → Result B Fault} → R A r s → ((x : A) → R B (f x) (g x)) → R B (r >>= f) (s >>= g)

-- what one side reads expressions by
pub record Side : Type 0 where
  pub scope : Scope
  pub statement : ℕ
  pub known : Known

-- two scopes say the same of sections, lines, regions, segments and headers, and of whether a name has a definition
pub record Agree (a b : Scope) : Type 0 where
  pub section_name : (s : ℕ) → a.section_name s ≡ b.section_name s
  pub «section» : (name : Name) → a.«section» name ≡ b.«section» name
  pub alignment : (s : ℕ) → a.alignment s ≡ b.alignment s
  pub line : (at : ℕ) → a.line at ≡ b.line at
  pub region : (name : Name) → a.region name ≡ b.region name
  pub segment_start : (segment : SegmentName) → a.segment_start segment ≡ b.segment_start segment
  pub header_size : a.header_size ≡ b.header_size
  pub defined : (name : Name) → is_some (definition_of a name) ≡ is_some (definition_of b name)

-- the relation holds of what is answered without a part of an expression
pub record Leaves (R : Relation) (a b : Side) : Type 0 where
  -- what is asked of the layout
  pub asked : (x : Asked) (name : Name) → R ℕ (or_fault (a.known x) (NotLaidOut a.statement name)) (or_fault (b.known x) (NotLaidOut b.statement name))
  -- a fault that names the statement
  pub fails : (f : ℕ → Fault) → R Value (Err (f a.statement)) (Err (f b.statement))
  pub scopes : Agree a.scope b.scope

-- two paths hold the same of the names that have a definition
abbrev pub SameNames : Scope → List Name → List Name → Type 0
SameNames scope path other = (name : Name) (d : Definition) → definition_of scope name ≡ Some d → is_on name path ≡ is_on name other
