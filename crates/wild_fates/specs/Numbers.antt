-- The numbers of constants in statements.
use Rattle.std.specs.Prelude.{ℕ, Result, Ok, Err}
use Rattle.wild_names.specs.declared.fault.Fault.{Fault}
use Rattle.wild_value_spec.specs.Const.{Constant}
use Rattle.wild_plan_spec.specs.Checks.{constant_fault}

-- the number, or why statement n has none
abbrev pub number_or_fault : ℕ → Constant → Result ℕ Fault
number_or_fault n (Ok v) = Ok v
number_or_fault n (Err f) = Err (constant_fault n f)
