use Rattle.std.proofs.Common.{◌≡◌, ◌++◌, string_bytes, take, flat_map}
use Rattle.wild_plan_text.specs.Letters.{letter_in}
use Rattle.wild_plan_text.proofs.text.push_letters_among.Given as goal

abbrev pub invariant-loop-letter : goal.invariant-loop-letter
invariant-loop-letter l = string_bytes l.out ≡ string_bytes l.fn.out ++ flat_map (letter_in l.flags) (take l.letter-index l.letters)
