use Rattle.std.proofs.Common.{◌≡◌, ◌++◌, string_bytes, take}
use Rattle.wild_plan_spec.specs.Text.{more_sections}
use Rattle.wild_plan_text.proofs.text.push_more_sections.Given as goal

abbrev pub invariant-loop-index : goal.invariant-loop-index
invariant-loop-index l = string_bytes l.out ≡ string_bytes l.fn.out ++ more_sections l.sections (take l.index-index l.held)
