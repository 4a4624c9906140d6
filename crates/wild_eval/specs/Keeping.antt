-- Evaluation that keeps what it finds, at an evaluator's scope, statement and addresses.
use Rattle.std.specs.Prelude.{◌≡◌, ◌⊎◌, ℕ, List, slice_get, Option, Some, None, Result, Ok, Err}
use Rattle.wild_names.specs.declared.fault.Fault.{Fault}
use Rattle.wild_names.specs.declared.fault.Fault.TheVariants.{NoMemory}
use Rattle.wild_names.specs.declared.segment_name.SegmentName.{SegmentName}
use Rattle.wild_expression_tree.specs.declared.operator.Arithmetic.{Arithmetic}
use Rattle.wild_expression_tree.specs.declared.operator.Comparison.{Comparison}
use Rattle.wild_expression_tree.specs.declared.operator.Connective.{Connective}
use Rattle.wild_expression_tree.specs.declared.operator.Division.{Division}
use Rattle.wild_expression_tree.specs.declared.operator.Unary.{Unary}
use Rattle.wild_expression_tree.specs.declared.tree.Expression.{Expression}
use Rattle.wild_expression_tree.specs.Shape.{shape}
use Rattle.wild_value_spec.specs.declared.value.Point.{Point}
use Rattle.wild_value_spec.specs.declared.value.Value.{Value}
use Rattle.wild_value_spec.specs.declared.value.Whole.{Whole}
use Rattle.wild_value_spec.specs.Scope.{Name, Definition}
use Rattle.wild_memo_laws.specs.declared.slot.Slot.{Slot}
use Rattle.wild_memo_laws.specs.Memo as machine
use Rattle.wild_memo_laws.specs.Nodes.{nodes}
use Rattle.wild_memo_laws.specs.Running.{State, Ran, give}
use Rattle.wild_memo_laws.specs.Sound.{Stopped}
use Rattle.wild_eval.specs.declared.evaluator.Evaluator.{Evaluator}
use Rattle.wild_eval.specs.Leaves.{known, scope}

-- what is kept, and what is counted
abbrev pub kept : List Slot → ℕ → State
kept slots ticks = record { slots = slots; ticks = ticks }

-- on work on what has so many nodes: what a function returned, and what it left kept and counted, is what ran; where memory
-- ran out it was given up
abbrev pub Runs : {Y : Type 0} → Evaluator → ℕ → Result Y Fault → State → State → Ran Y → Type 0
Runs v cost (Ok x) s t ran = ran ≡ give (Ok x) t
Runs v cost (Err f) s t ran = ((f ≡ NoMemory) × Stopped (scope v) (known v) cost s t) ⊎ (ran ≡ give (Err f) t)

-- the nodes of an expression that may be left out
abbrev pub held_nodes : Option Expression → ℕ
held_nodes (Some e) = nodes e
held_nodes None = 0

-- ---- nodes, where this many levels are left

-- the value of an expression
abbrev pub value : Evaluator → ℕ → Expression → Point → State → Ran Value
value v = machine.value (scope v) v.statement (known v)

-- arithmetic of two sides
abbrev pub arithmetic_value : Evaluator → ℕ → Arithmetic → Expression → Expression → Point → State → Ran Value
arithmetic_value v h = machine.arithmetic_value (scope v) v.statement (known v) (value v h) h

-- a quotient or a remainder
abbrev pub division_value : Evaluator → ℕ → Division → Expression → Expression → Point → State → Ran Value
division_value v h = machine.division_value (scope v) v.statement (known v) (value v h) h

-- a comparison of two sides
abbrev pub comparison_value : Evaluator → ℕ → Comparison → Expression → Expression → Point → State → Ran Value
comparison_value v h = machine.comparison_value (scope v) v.statement (known v) (value v h) h

-- `&&` and `||`
abbrev pub connective_value : Evaluator → ℕ → Connective → Expression → Expression → Point → State → Ran Value
connective_value v h = machine.connective_value (scope v) v.statement (known v) (value v h) h

-- `!`, `~` and `-`
abbrev pub unary_value : Evaluator → ℕ → Unary → Expression → Point → State → Ran Value
unary_value v h = machine.unary_value (scope v) v.statement (known v) (value v h) h

-- the side that a condition chooses
abbrev pub ternary_value : Evaluator → ℕ → Expression → Expression → Expression → Point → State → Ran Value
ternary_value v h = machine.ternary_value (scope v) v.statement (known v) (value v h) h

-- what is aligned
abbrev pub subject : Evaluator → ℕ → Option Expression → Point → State → Ran Value
subject v h = machine.subject (scope v) v.statement (known v) (value v h) h

-- ALIGN
abbrev pub align_value : Evaluator → ℕ → Expression → Option Expression → Point → State → Ran Value
align_value v h = machine.align_value (scope v) v.statement (known v) (value v h) h

-- SEGMENT_START
abbrev pub segment_value : Evaluator → ℕ → SegmentName → Expression → Point → State → Ran Value
segment_value v h = machine.segment_value (scope v) v.statement (known v) (value v h) h

-- ASSERT
abbrev pub assert_value : Evaluator → ℕ → Expression → Name → ℕ → Point → State → Ran Value
assert_value v h = machine.assert_value (scope v) v.statement (known v) (value v h) h

-- what a definition is worth, found anew
abbrev pub found : Evaluator → ℕ → Name → Definition → State → Ran Whole
found v h = machine.found (scope v) v.statement (known v) (value v h) h

-- the same, and then kept
abbrev pub worked : Evaluator → ℕ → Name → ℕ → Definition → State → Ran Whole
worked v h = machine.worked (scope v) v.statement (known v) (value v h) h

-- the same, unless it was kept
abbrev pub whole : Evaluator → ℕ → Name → ℕ → Definition → State → Ran Whole
whole v h = machine.whole (scope v) v.statement (known v) (value v h) h

-- a symbol by the number of its definition
abbrev pub symbol_at : Evaluator → ℕ → Name → ℕ → Point → State → Ran Value
symbol_at v h name i = machine.symbol_at (scope v) v.statement (known v) (value v h) h name i (slice_get (scope v).definitions i)

-- a symbol by its name
abbrev pub symbol : Evaluator → ℕ → Name → Point → State → Ran Value
symbol v h = machine.symbol (scope v) v.statement (known v) (value v h) h

-- a node of any kind
abbrev pub node : Evaluator → ℕ → Expression → Point → State → Ran Value
node v h e p = machine.node (scope v) v.statement (known v) (value v h) h p (shape e)
