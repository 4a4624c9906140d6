-- What is read at a position as an expression, and what says that nothing is.
use Rattle.std.specs.Prelude.{◌≡◌, ℕ, ◌≤◌, ◌<◌, length}
use Rattle.wild_reading.specs.Position.{Bytes, max_depth}
use Rattle.wild_names.specs.declared.fault.Fault.{Fault}
use Rattle.wild_names.specs.declared.fault.Fault.TheVariants.{Syntax, UnclosedComment, TooDeep, NoMemory}
use Rattle.wild_reading.specs.Only.{IsOpenComment, IsTooDeep}
use Rattle.wild_reading.specs.declared.stop.Stop.{Stop}
use Rattle.wild_reading.specs.declared.stop.Stop.TheVariants as stop
use Rattle.wild_expression_tree.specs.declared.tree.Expression.{Expression}
use Rattle.wild_expression_words.specs.declared.operators.Level.TheVariants.{Ternary}
use Rattle.wild_expression.specs.Depths.{IsRead}

-- from one position to the other the bytes are read as this expression, of that depth
unfoldable pub is_read : Bytes → ℕ → Expression → ℕ → ℕ → Type 0
is_read b i x depth j = IsRead Ternary b i (record { expression = x; depth = depth }) j

-- they are, it is within the limit of depth, and nothing else is read from there, of whatever depth
pub record IsExpression (b : Bytes) (i : ℕ) (x : Expression) (j : ℕ) : Type 0 where
  pub depth : ℕ
  pub is : is_read b i x depth j
  pub deep : depth ≤ max_depth
  pub only : (y : Expression) (d k : ℕ) → is_read b i y d k → (y ≡ x) × (d ≡ depth) × (k ≡ j)
  pub forward : i < j
  pub within : j ≤ length b

-- nothing is read, of whatever depth
abbrev pub Never : Bytes → ℕ → Type 0
Never b i = (x : Expression) (d j : ℕ) → is_read b i x d j → ⊥

-- nothing within the limit of depth is
abbrev pub HasNone : Bytes → ℕ → Type 0
HasNone b i = (x : Expression) (d j : ℕ) → is_read b i x d j → max_depth < d

-- the fault that says why reading stopped; no sort is in an expression
abbrev pub plain_fault : Stop → Fault
plain_fault (stop.Syntax position) = Syntax position
plain_fault (stop.OpenComment position) = UnclosedComment position
plain_fault (stop.NestedSort position) = Syntax position
plain_fault (stop.TooDeep position) = TooDeep position
plain_fault stop.NoMemory = NoMemory

-- why nothing is read from a position
abbrev pub IsRefusal : Bytes → ℕ → Fault → Type 0
IsRefusal b i (Syntax position) = Never b i × (position ≤ length b)
IsRefusal b i (UnclosedComment position) = Never b i × IsOpenComment b position
IsRefusal b i (TooDeep position) = HasNone b i × IsTooDeep (record { bytes = b; start = i; limit = max_depth }) position
IsRefusal b i f = ⊥
