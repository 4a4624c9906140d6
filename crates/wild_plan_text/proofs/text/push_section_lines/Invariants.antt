use Rattle.std.proofs.Common.{◌≡◌, ◌++◌, string_bytes, take, flat_map}
use Rattle.wild_plan_spec.specs.Text.{section_line}
use Rattle.wild_plan_text.proofs.text.push_section_lines.Given as goal

abbrev pub invariant-loop-section : goal.invariant-loop-section
invariant-loop-section l = string_bytes l.out ≡ string_bytes l.fn.out ++ flat_map section_line (take l.section-index l.sections)
