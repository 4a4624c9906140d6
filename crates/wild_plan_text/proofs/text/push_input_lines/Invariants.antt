use Rattle.std.proofs.Common.{◌≡◌, ◌++◌, string_bytes}
use Rattle.std.specs.Slice.Iter.{iter_rest}
use Rattle.std.specs.Iterator.Adapters.{zip_first, zip_second}
use Rattle.wild_plan_spec.specs.Text.{input_lines}
use Rattle.wild_plan_text.proofs.text.push_input_lines.Given as goal

-- what is pushed so far, before the lines that are left
abbrev pub invariant-loop-row : goal.invariant-loop-row
invariant-loop-row l =
    string_bytes l.out ++ input_lines l.sections l.row-iterator.count (iter_rest (zip_first l.row-iterator.iter)) (iter_rest (zip_second l.row-iterator.iter))
    ≡ string_bytes l.fn.out ++ input_lines l.sections 0 l.placements l.names
