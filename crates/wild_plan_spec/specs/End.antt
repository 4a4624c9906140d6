-- What is evaluated once all places are laid out, over what is then known.
use Rattle.std.specs.Prelude.{List, Result, Ok}
use Rattle.wild_names.specs.declared.fault.Fault.{Fault}
use Rattle.wild_value_spec.specs.Answer.{◌>>=◌}
use Rattle.wild_value_spec.specs.Known.{Known}
use Rattle.wild_value_spec.specs.Scope.{Scope}
use Rattle.wild_plan_spec.specs.declared.placed.PlacedSymbol.{PlacedSymbol}
use Rattle.wild_plan_spec.specs.Conditions.{conditions}
use Rattle.wild_plan_spec.specs.Places.{Place}
use Rattle.wild_plan_spec.specs.Symbols.{symbols}

module _ (scope : Scope) (known : Known) where
  -- the symbols of the script, where all of them have values and then all conditions hold
  abbrev pub final_symbols : List Place → Result (List PlacedSymbol) Fault
  final_symbols ps = symbols scope known 0 ps >>= (λ found. conditions scope known 0 ps >>= (λ u. Ok found))
