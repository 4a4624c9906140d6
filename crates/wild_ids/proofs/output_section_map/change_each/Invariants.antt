use Rattle.std.proofs.Common.{◌≡◌, length, take, drop}
use Rattle.wild_ids.specs.Calls.{ChangesEach}
use Rattle.wild_ids.proofs.output_section_map.change_each.Given as goal

abbrev pub invariant-loop-i : goal.invariant-loop-i
invariant-loop-i g l =
    goal.F-IsAlwaysCallable g l.cb
    × (length l.values ≡ length l.fn.values)
    × (drop l.i l.values ≡ drop l.i l.fn.values)
    × ChangesEach (goal.F-step g) l.fn.cb 0 (take l.i l.fn.values) (take l.i l.values) l.cb
