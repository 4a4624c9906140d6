use Rattle.std.proofs.Common.{◌≡◌, ◌++◌, string_bytes, take, flat_map}
use Rattle.wild_plan_spec.specs.Text.{symbol_line}
use Rattle.wild_plan_text.proofs.text.push_symbol_lines.Given as goal

abbrev pub invariant-loop-symbol : goal.invariant-loop-symbol
invariant-loop-symbol l = string_bytes l.out ≡ string_bytes l.fn.out ++ flat_map (symbol_line l.sections) (take l.symbol-index l.symbols)
