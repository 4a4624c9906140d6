use Rattle.std.proofs.Common.{◌≡◌, ◌++◌, drop}
use Rattle.wild_eval.specs.Addresses.{known_of}
use Rattle.wild_plan.specs.Sums.{wrapped_symbols}
use Rattle.wild_plan.proofs.symbols.table_symbols.Given as goal

abbrev pub invariant-loop-symbol : goal.invariant-loop-symbol
invariant-loop-symbol l = l.placed ++ wrapped_symbols (known_of l.addresses) l.fates (drop l.symbol-index l.symbols) ≡ wrapped_symbols (known_of l.addresses) l.fates l.symbols
