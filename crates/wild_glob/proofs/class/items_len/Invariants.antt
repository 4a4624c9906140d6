use Rattle.std.proofs.Common.{◌≡◌, drop, eqb}
use Rattle.std.specs.List.{position_from}
use Rattle.wild_glob.specs.Class.{items_len}
use Rattle.wild_glob.proofs.class.items_len.Given as goal

abbrev pub invariant-loop-i : goal.invariant-loop-i
invariant-loop-i l = position_from (λ b. eqb b 93) l.i (drop l.i l.text) ≡ items_len l.text
