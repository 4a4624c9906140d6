-- What fits into levels, and values whose heights are exact.
use Rattle.std.specs.Prelude.{◌≡◌, ◌<◌, ℕ, nat_le, if◌then◌else◌, Result, Ok, Err}
use Rattle.wild_names.specs.declared.fault.Fault.{Fault}
use Rattle.wild_names.specs.declared.fault.Fault.TheVariants.{DeepValue}
use Rattle.wild_value_spec.specs.declared.value.Value.{Value}

-- what has this height, where so many levels are left: it fits, or it is too deep for the statement
unfoldable pub fitted : {A : Type 0} → ℕ → ℕ → ℕ → A → Result A Fault
fitted statement levels height x = if nat_le height levels then Ok x else Err (DeepValue statement)

-- where the first answer is a value, the other one, at that statement and with so many levels, is that value as it fits
abbrev pub Fits : ℕ → ℕ → Result Value Fault → Result Value Fault → Type 0
Fits statement levels (Ok x) r = (0 < x.height) × (r ≡ fitted statement levels x.height x)
Fits statement levels (Err f) r = Unit {0}
