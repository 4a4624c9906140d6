-- Symbols that are found one after another.
use Rattle.std.specs.Prelude.{List, ◌++◌, Result, Ok}
use Rattle.wild_names.specs.declared.fault.Fault.{Fault}
use Rattle.wild_value_spec.specs.Answer.{◌>>=◌}
use Rattle.wild_plan_spec.specs.declared.placed.PlacedSymbol.{PlacedSymbol}

-- these symbols, and then those of the answer
abbrev pub found_then : List PlacedSymbol → Result (List PlacedSymbol) Fault → Result (List PlacedSymbol) Fault
found_then found answer = answer >>= (λ rest. Ok (found ++ rest))
