-- What has no part, at an evaluator's scope, statement and addresses.
use Rattle.std.specs.Prelude.{ℕ, Option, Result}
use Rattle.wild_names.specs.declared.fault.Fault.{Fault}
use Rattle.wild_expression_tree.specs.declared.operator.Comparison.{Comparison}
use Rattle.wild_expression_tree.specs.declared.operator.Question.{Question}
use Rattle.wild_value_spec.specs.declared.value.Point.{Point}
use Rattle.wild_value_spec.specs.declared.value.Value.{Value}
use Rattle.wild_value_spec.specs.declared.value.Whole.{Whole}
use Rattle.wild_value_spec.specs.Known.{Known}
use Rattle.wild_value_spec.specs.Scope.{Name, Scope}
use Rattle.wild_value_spec.specs.Value as spec
use Rattle.wild_eval.specs.declared.evaluator.Evaluator.{Evaluator}
use Rattle.wild_eval.specs.Scope.{scope_of}
use Rattle.wild_eval.specs.Addresses.{known_of}

-- what the script and its table say
abbrev pub scope : Evaluator → Scope
scope v = scope_of v.scope.now

-- what is known of the layout
abbrev pub known : Evaluator → Known
known v = known_of v.addresses.now

-- `.` of a point
abbrev pub dot_of : Evaluator → Point → Result ℕ Fault
dot_of v = spec.dot_of (scope v) v.statement (known v)

-- the start of a section
abbrev pub start_of : Evaluator → ℕ → Result ℕ Fault
start_of v = spec.start_of (scope v) v.statement (known v)

-- its load address
abbrev pub load_of : Evaluator → ℕ → Result ℕ Fault
load_of v = spec.load_of (scope v) v.statement (known v)

-- its end
abbrev pub end_of : Evaluator → ℕ → Result ℕ Fault
end_of v = spec.end_of (scope v) v.statement (known v)

-- the address of the row of a symbol
abbrev pub row_of : Evaluator → Name → ℕ → Result ℕ Fault
row_of v = spec.row_of (scope v) v.statement (known v)

-- a comparison, over the full value of its left side
abbrev pub judgement : Evaluator → Comparison → Point → ℕ → Value → Value → Result Value Fault
judgement v = spec.judgement (scope v) v.statement (known v)

-- the number that a value stands for at a point
abbrev pub full_number : Evaluator → Point → Value → Result ℕ Fault
full_number v = spec.full_number (scope v) v.statement (known v)

-- the value of `.`
abbrev pub counter : Evaluator → Point → Result Value Fault
counter v = spec.counter (scope v) v.statement (known v)

-- the number of `.` alone
abbrev pub counter_number : Evaluator → Point → Result Value Fault
counter_number v = spec.counter_number (scope v) v.statement (known v)

-- the size of a section
abbrev pub extent : Evaluator → ℕ → Result Value Fault
extent v = spec.extent (scope v) v.statement (known v)

-- SIZEOF
abbrev pub size : Evaluator → Name → Result Value Fault
size v = spec.size (scope v) v.statement (known v)

-- ALIGNOF
abbrev pub alignment : Evaluator → Name → Value
alignment v = spec.alignment (scope v) v.statement (known v)

-- ADDR
abbrev pub start_named : Evaluator → Name → Result Value Fault
start_named v = spec.start_named (scope v) v.statement (known v)

-- LOADADDR
abbrev pub load_named : Evaluator → Name → Result Value Fault
load_named v = spec.load_named (scope v) v.statement (known v)

-- ORIGIN
abbrev pub region_origin : Evaluator → Name → Result Value Fault
region_origin v = spec.region_origin (scope v) v.statement (known v)

-- LENGTH
abbrev pub region_length : Evaluator → Name → Result Value Fault
region_length v = spec.region_length (scope v) v.statement (known v)

-- DEFINED
abbrev pub defined_value : Evaluator → Name → Value
defined_value v = spec.defined_value (scope v) v.statement (known v)

-- what is asked of a name
abbrev pub named_value : Evaluator → Question → Name → Result Value Fault
named_value v = spec.named_value (scope v) v.statement (known v)

-- what a symbol is worth, counted from the start of its section
abbrev pub from_start : Evaluator → Name → Whole → ℕ → Result Value Fault
from_start v = spec.from_start (scope v) v.statement (known v)

-- what a symbol of a section is worth, as it is read in a section
abbrev pub symbol_value_in : Evaluator → Name → Whole → Option ℕ → Option ℕ → Result Value Fault
symbol_value_in v = spec.symbol_value_in (scope v) v.statement (known v)

-- the same, as it is read at a point
abbrev pub symbol_value : Evaluator → Name → Option ℕ → Point → Whole → Result Value Fault
symbol_value v = spec.symbol_value (scope v) v.statement (known v)

-- what a symbol of the table is worth
abbrev pub row_whole : Evaluator → Name → ℕ → ℕ → Result Whole Fault
row_whole v = spec.row_whole (scope v) v.statement (known v)

-- the number that a value stands for, and its height
abbrev pub value_whole : Evaluator → Point → Value → Result Whole Fault
value_whole v = spec.value_whole (scope v) v.statement (known v)
