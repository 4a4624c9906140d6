use Rattle.std.proofs.Common.{◌≡◌, ◌++◌, string_bytes, take}
use Rattle.wild_plan_spec.specs.Text.{more_names}
use Rattle.wild_plan_text.proofs.text.push_more_names.Given as goal

abbrev pub invariant-loop-name : goal.invariant-loop-name
invariant-loop-name l = string_bytes l.out ≡ string_bytes l.fn.out ++ more_names (take l.name-index l.names)
