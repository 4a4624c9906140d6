use Rattle.std.proofs.Common.{◌≡◌, ◌++◌, string_bytes, take, flat_map}
use Rattle.wild_plan_spec.specs.Text.{printed_byte}
use Rattle.wild_plan_text.proofs.text.push_bytes.Given as goal

abbrev pub invariant-loop-byte : goal.invariant-loop-byte
invariant-loop-byte l = string_bytes l.out ≡ string_bytes l.fn.out ++ flat_map printed_byte (take l.byte-index l.bytes)
